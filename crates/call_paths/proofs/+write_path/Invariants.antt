-- `write_path`: the measure is d, the steps left.
use Rattle.call_paths.proofs.+write_path.Given as goal

abbrev pub decreases-write_path : goal.decreases-write_path
decreases-write_path l = l.d
