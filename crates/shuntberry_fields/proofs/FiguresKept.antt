-- The proof of specs/Figures.
use mathlib.Core.Path.{refl}
use Rattle.model.specs.Blocks.{weighted, check_of}
use Rattle.shuntberry_fields.specs.Figures.{Figures, CheckIs, FieldsAre, RefusedAre}

pub figures : Figures
figures =
    record {
      library_version = refl;
      greatest_fan_out = refl;
      greatest_site = refl;
      no_distance = refl;
      bytes_of_an_entry = refl;
      bytes_of_a_log = refl;
      words_of_possible-steps = refl;
      minutes_of_a_day = refl;
      minutes_of_a_week = refl;
      latest_time = refl;
      most_windows = refl;
      most-closed_days = refl;
      longest_wait = refl;
      window = (refl, refl);
    }

pub check-is : CheckIs
unfolding weighted check_of
check-is = record { check = λ site block. refl; none = λ block. refl; more = λ block i. refl }

pub fields_are : FieldsAre
fields_are =
    record {
      decide = λ X. refl;
      shortest-path = refl;
      within = (refl, refl);
      read = refl;
      write-rewrite = refl;
      replay = refl;
      session = λ X Y. refl;
      decide_modal = λ X. refl;
      next_open = (refl, refl);
      check = (refl, refl, refl);
    }

pub refused_are : RefusedAre
refused_are =
    record {
      decide = λ k. refl;
      shortest-path = λ k. refl;
      within = λ k. refl;
      read = λ k. refl;
      write-rewrite = λ k. refl;
      replay = λ k. refl;
      session = λ X k. refl;
      decide_modal = λ k. refl;
      next_open = λ k. refl;
      check = λ k. refl;
      number = λ k. (refl, refl);
    }
