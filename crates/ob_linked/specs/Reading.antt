-- A path that is read by the version of its first bucket, while others may change what lies there between any two reads.
use Rattle.std.specs.Prelude.{◌≡◌, ◌≢◌, ◌<◌, ◌+◌, ◌*◌, ℕ, ◌==◌, List, [], ◌∷◌, if◌then◌else◌}
use Rattle.ob_path.specs.Paths.{above}
use Rattle.ob_linked.specs.declared.version.Version.{Version}
use Rattle.ob_linked.specs.declared.writing.Step.{Step}
use Rattle.ob_linked.specs.declared.reading.Contents.{Contents}
use Rattle.ob_linked.specs.Linked.{Block, Tree, AreApart, IsMade, IsSealed}
use Rattle.ob_linked.specs.Writing.{sealed_as, buckets_of, AreStepsOf}

-- what opened as this version of a bucket was once sealed so
pub record WasSealed (made : List (Block ℕ)) (bucket : ℕ) (v : Version) (c : Contents) : Type 0 where
  pub is : IsMade made (sealed_as bucket v c.rows c.left c.right)

-- of the children that a block names the one that is meant
abbrev pub child_of : Contents → (bucket child : ℕ) → Version
child_of c b child = if child == 2 * b + 1 then c.left else c.right

abbrev pub Below : (n : ℕ) → ℕ → List ℕ → Type 0
Below n b [] = b < n
Below n b (c ∷ below) = (b < n) × (c ≢ 0) × (above c ≡ b) × Below n c below

-- buckets of a tree of n, each the child of the one before, and the version of the first
abbrev pub StartsAt : (n : ℕ) → Tree ℕ → Version → List ℕ → Type 0
StartsAt n t v [] = Unit {0}
StartsAt n t v (b ∷ below) = (v ≡ t.version b) × Below n b below

-- what was read is what the tree has
pub record AreRead (t : Tree ℕ) (buckets : List ℕ) (steps : List Step) : Type 0 where
  pub are : buckets_of steps ≡ buckets
  pub steps_are : AreStepsOf t steps

-- of whichever tree all blocks were sealed
pub record Told (made : List (Block ℕ)) (v : Version) (buckets : List ℕ) (steps : List Step) : Type 0 where
  pub told : AreApart made → (n : ℕ) (t : Tree ℕ) → IsSealed made n t → StartsAt n t v buckets → AreRead t buckets steps
