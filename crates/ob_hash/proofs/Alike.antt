-- What is said of a table, said of equal slots and numbers.
use Rattle.std.proofs.Common.{◌≡◌, ℕ, Bool, List, Option, refl, ◌∙◌, ap, subst}
use Rattle.ob_base.specs.declared.access.Access.{Access}
use Rattle.ob_base.specs.Numbers.{first_bucket, second_bucket}
use Rattle.ob_vault.specs.Calls.{Went}
use Rattle.ob_vault.specs.declared.region.Order.TheVariants.{Any}
use Rattle.ob_vault.specs.State.{World}
use Rattle.ob_vault.proofs.Runs.{turn_any, lives_went, own_lasts, written_went}
use Rattle.ob_row.specs.Rows.{Row}
use Rattle.ob_row.specs.Results.{Buckets}
use Rattle.ob_row.specs.Slots.{Slots}
use Rattle.ob_flat.specs.declared.flat.Flat.{Flat}
use Rattle.ob_flat.specs.Flats.{HoldsSlots, IsInTurn, table_region}
use Rattle.ob_hash.specs.Bucketed.{bucket_waits, bucket_after, spread, after_place, still_waits}
use Rattle.ob_hash.specs.Hashing.{Layout, bucket_size}
use Rattle.ob_hash.proofs.Both.{ShownBoth}

pub holds_alike : (pack : ℕ) (flat : Flat) (w : World) (a b : Slots) → a ≡ b → HoldsSlots pack flat a w → HoldsSlots pack flat b w
holds_alike pack flat w a b same is = subst (λ (l : Slots). HoldsSlots pack flat l w) same is

-- each place is in turn in a region without order
pub any_turn : (pack x y : ℕ) (flat : Flat) (w : World) → IsInTurn Any pack flat x w → IsInTurn Any pack flat y w
any_turn pack x y flat w is = record { own = is.own; lives = is.lives; turn = turn_any flat.region (table_region Any pack flat.schema flat.capacity) y w refl; written = is.written }

-- it stays so where other regions were asked
pub open_went : (pack x : ℕ) (flat : Flat) (some : ℕ → Type 0) (script : List Access) (a b : World) → Went script some a b → (some flat.region → ⊥) → IsInTurn Any pack flat x a → IsInTurn Any pack flat x b
open_went pack x flat some script a b went off is = record {
  own = own_lasts some a b went.lasts flat.region is.own;
  lives = lives_went some a b script flat.region _ went off is.lives;
  turn = turn_any flat.region (table_region Any pack flat.schema flat.capacity) x b refl;
  written = λ p below. written_went some a b script flat.region p went off (is.written p below);
}

-- both buckets of a row were shown to it
pub second_shown : (l : Layout) (i : ℕ) (w : World) (slots : Slots) (buckets : Buckets) (own : Option Row) (waits still last : Bool)
    → still ≡ bucket_waits (bucket_size l) waits (spread (bucket_size l) slots buckets) (first_bucket l.k i)
    → ShownBoth l.k (bucket_size l) i slots own waits buckets
    → (last ≡ bucket_waits (bucket_size l) still (bucket_after (bucket_size l) waits own (spread (bucket_size l) slots buckets) (first_bucket l.k i)) (second_bucket l.k i))
    × HoldsSlots l.pack l.table (bucket_after (bucket_size l) still own (bucket_after (bucket_size l) waits own (spread (bucket_size l) slots buckets) (first_bucket l.k i)) (second_bucket l.k i)) w
    → (last ≡ still_waits l.k (bucket_size l) waits i buckets) × HoldsSlots l.pack l.table (spread (bucket_size l) slots (after_place l.k (bucket_size l) waits i buckets)) w
second_shown l i w slots buckets own waits still last was both told =
    let n = bucket_size l in
    let once = bucket_after n waits own (spread n slots buckets) (first_bucket l.k i) in (
      told.0 ∙ ap (λ (b : Bool). bucket_waits n b once (second_bucket l.k i)) was ∙ both.still,
      holds_alike l.pack l.table w _ _ (ap (λ (b : Bool). bucket_after n b own once (second_bucket l.k i)) was ∙ both.after) told.1,
    )
