use Rattle.std.proofs.Common.{length}
use Rattle.ob_file.proofs.complaint.+put_plain.Given as goal

abbrev pub decreases-put_plain : goal.decreases-put_plain
decreases-put_plain g l = length l.text.now
