-- The proof of specs/WorkedTexts, by computation.
use mathlib.Core.Path.{refl}
use Rattle.basics.specs.Bounds.{tabulate, filter}
use Rattle.model.specs.Sets.{bit, member, number, set_of, empty, single, union, members, size}
use Rattle.core_report.specs.Text.{ascii, digits, decimal, spaced, states_line, verdict_line, invariant_line, path_line, safe_text, unsafe_text, undecided_text, report_text, refused_text}
use Rattle.core_report.specs.WorkedTexts.{WorkedTexts}

pub worked_texts : WorkedTexts
unfolding tabulate bit member number set_of empty single union filter members size ascii digits decimal spaced states_line verdict_line invariant_line path_line safe_text unsafe_text undecided_text report_text refused_text
worked_texts = record { E = refl; G = refl; B = refl; refusal = refl; invariant = refl; path = refl; undecided = refl; later_refusal = refl }
