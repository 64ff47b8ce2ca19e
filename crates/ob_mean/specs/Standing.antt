-- What may be seen, and what is meant, of a SELECT that asks in turns with others and has not ended.
use Rattle.std.specs.Prelude.{◌≡◌, ◌≤◌, ℕ, true, false}
use Rattle.ob_base.specs.declared.config.Public.{Public}
use Rattle.ob_base.specs.declared.seen.End.{End}
use Rattle.ob_base.specs.declared.seen.End.TheVariants.{Static, Whole, AfterCount, Batched, Cut}
use Rattle.ob_base.specs.declared.seen.Seen.{Seen}
use Rattle.ob_sql.specs.Skeleton.{skeleton}
use Rattle.ob_sql.specs.declared.stmt.Stmt.{Stmt}
use Rattle.ob_mean.specs.Lawful.{Lawful}
use Rattle.ob_mean.specs.Replay.{cut_at}
use Rattle.ob_mean.specs.Verdict.{Draws, Tables, seen as seen_by}

-- it is refused before any access, is on its way after n accesses, where what is held of it may be
-- seen of one that is cut off there, or the store has failed it at the last of them
abbrev pub StandsAs : Public → (m n : ℕ) → Stmt → Seen → End → Type 0
StandsAs p m n stmt seen Static = Lawful p m stmt seen
StandsAs p m n stmt seen Whole = Lawful p m stmt (record seen { end = Cut n })
StandsAs p m n stmt seen AfterCount = ⊥
StandsAs p m n stmt seen Batched = ⊥
StandsAs p m n stmt seen (Cut cut) = (cut ≡ n) × (1 ≤ n) × Lawful p m stmt seen

-- of its n accesses the first `done` were carried out: what is seen is what its meaning shows until then
abbrev pub StandsMeant : Draws → Public → (m n done : ℕ) → Tables → Stmt → Seen → End → Type 0
StandsMeant d p m n done tables stmt seen Static = seen ≡ seen_by d p m tables stmt
StandsMeant d p m n done tables stmt seen Whole =
    seen ≡ record (cut_at false done p (skeleton stmt) (seen_by d p m tables stmt)) { end = Whole }
StandsMeant d p m n done tables stmt seen AfterCount = ⊥
StandsMeant d p m n done tables stmt seen Batched = ⊥
StandsMeant d p m n done tables stmt seen (Cut cut) =
    seen ≡ cut_at true n p (skeleton stmt) (seen_by d p m tables stmt)
