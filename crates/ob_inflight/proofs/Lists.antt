-- Lists of which one is replaced, sums over them, and shares.
use Rattle.std.proofs.Common.{◌≡◌, inl, inr, ℕ, zero, suc, ◌+◌, ◌-◌, ◌*◌, ◌<◌, ◌≤◌, List, [], ◌∷◌, ◌++◌, Some, length, take, drop, refl, sym, ◌∙◌, ap, arith, length-drop}
use Rattle.std.specs.Prelude.{slice_get, slice_set}
use Rattle.std.proofs.Math.Seq.{drop-append_seam, drop-append-add, take-append_seam}
use Rattle.std.proofs.lemmas.Bool.{cases_lt}
use Rattle.std.proofs.lemmas.List.{take-append-le, drop-append-le}
use Rattle.ob_vault.specs.Rows.{SameSizes}
use Rattle.ob_vault.proofs.RowsLemmas.{sizes_join, rows_room, one_more}
use Rattle.ob_inflight.specs.Kinds.{share_at}
use Rattle.ob_script.specs.FlightLaws.{total}

pub length-set_at : {A : Type 0} (xs : List A) (i : ℕ) (y : A) → length (slice_set xs i y) ≡ length xs
length-set_at [] i y = refl
length-set_at (x ∷ xs) zero y = refl
length-set_at (x ∷ xs) (suc i) y = ap suc (length-set_at xs i y)

pub get_some : {A : Type 0} (xs : List A) (i : ℕ) → i < length xs → (x : A) × (slice_get xs i ≡ Some x)
get_some [] i less = absurd (omega (arith, less))
get_some (x ∷ xs) zero less = (x, refl)
get_some (x ∷ xs) (suc i) less = get_some xs i (omega (arith, less))

-- ---- sums
pub total_few : {F : Type 0} (n : F → ℕ) (most : ℕ) (fs : List F) → ((i : ℕ) (f : F) → slice_get fs i ≡ Some f → n f ≤ most) → total n fs ≤ length fs * most
unfolding total
total_few n most [] few = omega arith
total_few n most (f ∷ fs) few =
    let more : (length fs + 1) * most ≡ length fs * most + most = one_more (length fs) most in
    let long : length (f ∷ fs) ≡ length fs + 1 = omega arith in
    let is : length (f ∷ fs) * most ≡ length fs * most + most = ap (λ (m : ℕ). m * most) long ∙ more in
    omega (arith, is, few 0 f refl, total_few n most fs (λ i g at. few (suc i) g at))

-- ---- shares
module _ (share place : ℕ) (front own back : List (List ℕ)) (before : length front ≡ place * share) (size : length own ≡ share) where
  pub share_here : share_at share place (front ++ (own ++ back)) ≡ own
  share_here =
      ap (λ (n : ℕ). take share (drop n (front ++ (own ++ back)))) (sym before)
      ∙ ap (take share) (drop-append_seam front (own ++ back))
      ∙ ap (λ (n : ℕ). take n (own ++ back)) (sym size)
      ∙ take-append_seam own back

  share_below : (i : ℕ) → i < place → share_at share i (front ++ (own ++ back)) ≡ take share (drop (i * share) front)
  share_below i less =
      let room = rows_room i place share less in
      ap (take share) (drop-append-le (i * share) front (own ++ back) (omega (arith, room, before)))
      ∙ take-append-le share (drop (i * share) front) (own ++ back) (omega (arith, room, before, length-drop (i * share) front))

  share_above : (i : ℕ) → place < i → share_at share i (front ++ (own ++ back)) ≡ take share (drop (i * share - (place * share + share)) back)
  share_above i more =
      let room = rows_room place i share more in
      let m : ℕ = i * share - (place * share + share) in
      let n : i * share ≡ length front + (length own + m) = omega (arith, room, before, size) in
      ap (λ (n : ℕ). take share (drop n (front ++ (own ++ back)))) n
      ∙ ap (take share) (drop-append-add front (own ++ back) (length own + m) ∙ drop-append-add own back m)

module _ (share place : ℕ) (front own now back : List (List ℕ)) (before : length front ≡ place * share) (size : length own ≡ share) (same : SameSizes own now) where
  -- one share was changed, and the others weren't
  pub share_there : (i : ℕ) → (i ≡ place → ⊥) → share_at share i (front ++ (now ++ back)) ≡ share_at share i (front ++ (own ++ back))
  share_there i off =
      let wide : length now ≡ share = same.count ∙ size in
      elim (cases_lt i place) [
        | inl less ↦ share_below share place front now back before wide i less ∙ sym (share_below share place front own back before size i less)
        | inr more ↦
            let above : place < i = omega (arith, more, off) in
            share_above share place front now back before wide i above ∙ sym (share_above share place front own back before size i above)
      ]

  pub sizes_there : SameSizes (front ++ (own ++ back)) (front ++ (now ++ back))
  sizes_there = sizes_join front (own ++ back) front (now ++ back) (sizes_same front) (sizes_join own back now back same (sizes_same back))
    where
      sizes_same : (xs : List (List ℕ)) → SameSizes xs xs
      sizes_same xs = record { count = refl; sizes = λ j. refl }
