-- Words and the numbers that they say: decimal, with zeros in front or without, and up to the limit.
-- `WorkedWordsKept.worked_words` proves it.
use Rattle.std.specs.Prelude.{◌≡◌, Some, None}
use Rattle.core_report.specs.Text.{ascii}
use Rattle.program_generate.specs.Words.{word_of}

pub record WorkedWords : Type 0 where
  pub decimal : word_of (ascii "12") ≡ Some 12
  pub nought : word_of (ascii "0") ≡ Some 0
  pub zeros_in_front : word_of (ascii "007") ≡ Some 7
  pub all_digits : word_of (ascii "1234567890") ≡ Some 1234567890
  pub over_16_bits : word_of (ascii "65537") ≡ Some 65537
  pub greatest_seed : word_of (ascii "4294967295") ≡ Some 4294967295
  -- which is no seed, and so is every larger number
  pub limit : (word_of (ascii "4294967296") ≡ Some 4294967296) × (word_of (ascii "42949672950") ≡ Some 4294967296)
  pub not_decimal : word_of (ascii "1a") ≡ None
  -- the bytes just below '0' and just above '9'
  pub just_outside : (word_of (ascii "1/") ≡ None) × (word_of (ascii "1:") ≡ None)
  pub no_bytes : word_of (ascii "") ≡ None
