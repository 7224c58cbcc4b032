use lib.ListN.{length}
use Rattle.load.proofs.one_record.+write_numbers.Given as goal

abbrev pub decreases-write_numbers : goal.decreases-write_numbers
decreases-write_numbers l = length l.s.now
