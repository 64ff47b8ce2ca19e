-- A statement is cut off exactly where the store failed it.
use Rattle.ob_tables.proofs.Words.{Changed, Created, Deleted, Dropped, is_fault, is_store_fault, Outcome, refl, Refusal, Refused, refused_end, ℕ, ◌≡◌}
use Rattle.ob_base.specs.declared.refusal.Refusal.TheVariants.{StoreFault}
use Rattle.ob_mean.specs.Batches.{is_cut}
use Rattle.ob_tables.specs.Running.{outcome_end}
use Rattle.ob_verdict.specs.declared.outcome.Outcome.TheVariants.{Inserted, Rows}

refused_cut : (r : Refusal) (n : ℕ) → is_cut (refused_end r n) ≡ is_store_fault r
refused_cut StoreFault n = refl
refused_cut r n = refl

pub end_cut : (o : Outcome) (n : ℕ) → is_cut (outcome_end o n) ≡ is_fault o
end_cut (Refused r) n = refused_cut r n
end_cut other n = refl
