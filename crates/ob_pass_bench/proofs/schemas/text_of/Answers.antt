use Rattle.std.proofs.Common.{ℕ, sym, subst, arith, zero, suc, replicate, refl}
use Rattle.std.proofs.lemmas.List.{take-replicate}
use Rattle.ob_base.specs.Texts.{IsPrintable}
use Rattle.ob_pass_bench.proofs.schemas.text_of.Goals as goal

all_printable : (n : ℕ) → IsPrintable (replicate n 120)
all_printable zero = refl
all_printable (suc n) = all_printable n

pub from_bytes-requires-clause-printable : goal.from_bytes-requires-clause-printable
from_bytes-requires-clause-printable c =
    subst IsPrintable (sym (take-replicate c.from.result 255 120 (omega arith))) (all_printable c.from.result)
