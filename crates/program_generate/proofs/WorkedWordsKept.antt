-- The words of specs/WorkedWords, by computation.
use mathlib.Core.Path.{refl}
use Rattle.basics.specs.Bounds.{all}
use Rattle.core_report.specs.Text.{ascii}
use Rattle.program_generate.specs.Words.{is_digit, is_number, value_of, word_of}
use Rattle.program_generate.specs.WorkedWords.{WorkedWords}

pub worked_words : WorkedWords
unfolding all ascii is_digit is_number value_of word_of
worked_words =
    record {
      decimal = refl;
      nought = refl;
      zeros_in_front = refl;
      all_digits = refl;
      over_16_bits = refl;
      greatest_seed = refl;
      limit = (refl, refl);
      not_decimal = refl;
      just_outside = (refl, refl);
      no_bytes = refl;
    }
