pub mod ExamplesKept
