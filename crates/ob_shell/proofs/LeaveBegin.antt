-- What rests for the mark that a run begins with which has no tables.
use Rattle.ob_shell.proofs.Words.{KeptRegion, List, Mark, Option, Public, refl, RestsOn, ℕ, [], ◌<◌}
use Rattle.ob_headline.specs.Saving.{RestsAt}

-- no tables rest for a mark without any
pub rests_none : (secret : List ℕ) (mark : Mark) (p : Public) (kept : ℕ → Option KeptRegion) → ((now : ℕ → Option KeptRegion) → RestsAt secret mark now []) → 0 < p.next_region → RestsOn secret mark p kept []
rests_none secret mark p kept at below = record {
  region = 0;
  below = below;
  rests = λ now same. record { resting = []; rests = at now; alike = record { count = refl; found = λ name. refl; apart = refl; too = refl } };
}
