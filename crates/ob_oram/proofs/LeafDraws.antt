-- The leaves that accesses read are those of their draws, whatever the store answers.
use Rattle.std.proofs.Common.{◌≡◌, ◌%◌, ◌^◌, inl, inr, ℕ, suc, List, [], ◌∷◌, Result, Ok, Err, length, map, get_or, set, refl, sym, ◌∙◌, ap, arith}
use Rattle.std.proofs.lemmas.Bool.{cases_lt}
use Rattle.std.proofs.lemmas.List.{get_or_past, get_or-map, length-map, map-set}
use Rattle.ob_vault.specs.State.{World}
use Rattle.ob_row.specs.Keys.{key_number}
use Rattle.ob_tree.specs.Runs.{leaf_at, draws_read}
use Rattle.ob_oram.specs.declared.fault.OramErr.{OramErr}
use Rattle.ob_oram.specs.declared.index.Index.{Index}
use Rattle.ob_oram.specs.declared.op.Op.{Op}
use Rattle.ob_oram.specs.declared.op.Got.{Got}
use Rattle.ob_oram.specs.Accessing.{Accesses, leaf_read}
use Rattle.ob_oram.specs.Indexes.{IsEnded, IsIndex, leaves_of}
use Rattle.ob_oram.specs.Ops.{key_of_op}
use Rattle.ob_oram.specs.Sequences.{Step, AreAccesses, AreDrawn, keys_asked, leaves_read}

-- an index that has ended may not be accessed
pub ended_apart : (index : Index) (w : World) → IsEnded index → IsIndex index w → ⊥
ended_apart index w ended is = absurd (omega (arith, ap length ended.none, is.buffer))

module _ (d : ℕ → ℕ) (h n : ℕ) where
  -- the leaf of a key is that of its draw
  leaf_is : (leaves given : List ℕ) (k next drawn : ℕ) → leaves ≡ map (leaf_at h d) given → drawn ≡ d next → get_or leaves k (drawn % 2 ^ h) ≡ leaf_at h d (get_or given k next)
  leaf_is leaves given k next drawn is draw = elim (cases_lt k (length given)) [
    | inl inside ↦ ap (λ (l : List ℕ). get_or l k (drawn % 2 ^ h)) is ∙ get_or-map (leaf_at h d) given k next (drawn % 2 ^ h) inside
    | inr past ↦
        ap (λ (l : List ℕ). get_or l k (drawn % 2 ^ h)) is
        ∙ get_or_past (map (leaf_at h d) given) k (drawn % 2 ^ h) (omega (arith, past, length-map given (leaf_at h d)))
        ∙ ap (λ (x : ℕ). x % 2 ^ h) draw
        ∙ ap (leaf_at h d) (sym (get_or_past given k next past))
  ]

  -- an access that was carried out gives the key its own, and after another there is none
  after : (index left : Index) (op : Op) (draw next : ℕ) (given : List ℕ) (r : Result Got OramErr) (old new : World) (steps : List Step)
      → index.height ≡ h → index.capacity ≡ n → draw ≡ d next → leaves_of index ≡ map (leaf_at h d) given → Accesses index left op draw r old new → AreAccesses left steps
      → (left.height ≡ h → left.capacity ≡ n → leaves_of left ≡ map (leaf_at h d) (set given (key_number n (key_of_op op)) next)
      → leaves_read left steps ≡ map (leaf_at h d) (draws_read (suc next) (set given (key_number n (key_of_op op)) next) (keys_asked n steps)))
      → leaves_read left steps ≡ map (leaf_at h d) (draws_read (suc next) (set given (key_number n (key_of_op op)) next) (keys_asked n steps))
  after index left op draw next given (Ok got) old new steps height capacity drawn leaves is are rest =
      let has = is.leaves in
      rest (ap (λ (i : Index). i.height) has.same ∙ height) (ap (λ (i : Index). i.capacity) has.same ∙ capacity)
      (has.leaves
      ∙ (λ j. set (leaves j) (key_number (capacity j) (key_of_op op)) (drawn j % 2 ^ height j))
      ∙ sym (map-set (leaf_at h d) given (key_number n (key_of_op op)) next))
  after index left op draw next given (Err e) old new [] height capacity drawn leaves is are rest = refl
  after index left op draw next given (Err e) old new (s ∷ steps) height capacity drawn leaves is are rest = absurd (ended_apart left s.old is.ended are.0)

  pub leaves_drawn : (steps : List Step) (index : Index) (next : ℕ) (given : List ℕ) → index.height ≡ h → index.capacity ≡ n → AreAccesses index steps → AreDrawn d next steps
      → leaves_of index ≡ map (leaf_at h d) given → leaves_read index steps ≡ map (leaf_at h d) (draws_read next given (keys_asked n steps))
  leaves_drawn [] index next given height capacity are drawn leaves = refl
  leaves_drawn (s ∷ steps) index next given height capacity are drawn leaves =
      let k = key_number n (key_of_op s.op) in
      let head : leaf_read index s.op s.draw ≡ leaf_at h d (get_or given k next) =
      (λ j. get_or (leaves_of index) (key_number (capacity j) (key_of_op s.op)) (s.draw % 2 ^ height j)) ∙ leaf_is (leaves_of index) given k next s.draw leaves drawn.0 in
      let tail = after index s.left s.op s.draw next given s.result s.old s.new steps height capacity drawn.0 leaves are.1 are.2
      (λ higher keys left. leaves_drawn steps s.left (suc next) (set given k next) higher keys are.2 drawn.1 left) in
      λ j. head j ∷ tail j
