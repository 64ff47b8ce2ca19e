-- Rows that are too many for the slots in which they may lie, whether two have one key or not.
use Rattle.std.proofs.Common.{◌≡◌, ◌≢◌, ◌⊎◌, ◌<◌, ◌≤◌, ◌+◌, ◌*◌, ◌/◌, inl, inr, ℕ, zero, suc, Bool, true, false, List, [], ◌∷◌, Option, Some, None, length, get_or, set, refl, sym, ◌∙◌, ap, subst, arith}
use Rattle.std.proofs.Common.{get_or-set_same, get_or-set_other}
use Rattle.std.proofs.lemmas.Bool.{cases_eq, cases_lt, false≢true}
use Rattle.std.proofs.lemmas.List.{length-set, get_or_past}
use Rattle.std.proofs.Math.Nat.{lt-mul-div-succ}
use Rattle.std.specs.Prelude.{filter, min, not, if◌then◌else◌}
use Rattle.ob_tree.specs.Places.{lies_at, NoneLies}
use Rattle.ob_path.specs.Rows.{rows}
use Rattle.ob_oram.specs.Buffers.{HasRow, IsCrowded, Stuck, Turns, lies_above, turned}

-- the entries of a list of which two were exchanged
pub turned_get : {A : Type 0} (d : A) (list : List A) (i q j : ℕ) → i < length list → q < length list → (P : A → Type 0)
    → (j ≡ q → P (get_or list i d)) → (j ≢ q → j ≡ i → P (get_or list q d)) → (j ≢ q → j ≢ i → P (get_or list j d)) → P (get_or (turned d list i q) j d)
turned_get d list i q j hi hq P at_q at_i off = elim (cases_eq j q) [
  | inl same ↦
      let inside : q < length (set list i (get_or list q d)) = omega (arith, hq, length-set list i (get_or list q d)) in
      subst P (sym (ap (λ (k : ℕ). get_or (turned d list i q) k d) same ∙ get_or-set_same (set list i (get_or list q d)) q (get_or list i d) d inside)) (at_q same)
  | inr other ↦ elim (cases_eq j i) [
    | inl same ↦ subst P (sym (get_or-set_other (set list i (get_or list q d)) q j (get_or list i d) d other ∙ ap (λ (k : ℕ). get_or (set list i (get_or list q d)) k d) same ∙ get_or-set_same list i (get_or list q d) d hi)) (at_i other same)
    | inr third ↦ subst P (sym (get_or-set_other (set list i (get_or list q d)) q j (get_or list i d) d other ∙ get_or-set_other list i j (get_or list q d) d third)) (off other third)
  ]
]

pub length-turned : {A : Type 0} (d : A) (list : List A) (i q : ℕ) → length (turned d list i q) ≡ length list
length-turned d list i q = length-set (set list i (get_or list q d)) q (get_or list i d) ∙ length-set list i (get_or list q d)

abbrev pub counts : Bool → ℕ
counts true = 1
counts false = 0

-- how many rows pass
module _ {R : Type 0} (p : R → Bool) where
  abbrev pub tally : List (Option R) → ℕ
  tally slots = length (filter p (rows slots))

  abbrev pub weigh : Option R → ℕ
  weigh None = 0
  weigh (Some row) = counts (p row)

  tally_more : (b : Bool) (row : R) (rest : List R) → length (if b then row ∷ rest else rest) ≡ counts b + length rest
  tally_more true row rest = omega arith
  tally_more false row rest = omega arith

  tally_cons : (s : Option R) (slots : List (Option R)) → tally (s ∷ slots) ≡ weigh s + tally slots
  tally_cons None slots = omega arith
  tally_cons (Some row) slots = tally_more (p row) row (filter p (rows slots))

  pub tally_set : (slots : List (Option R)) (i : ℕ) (s : Option R) → i < length slots → tally (set slots i s) + weigh (get_or slots i None) ≡ tally slots + weigh s
  tally_set [] i s inside = absurd (omega (arith, inside))
  tally_set (x ∷ xs) zero s inside =
      let a = tally_cons s xs in
      let b = tally_cons x xs in
      omega (arith, a, b)
  tally_set (x ∷ xs) (suc i) s inside =
      let a = tally_cons x (set xs i s) in
      let b = tally_cons x xs in
      let c = tally_set xs i s (omega (arith, inside)) in
      omega (arith, a, b, c)

  pub tally_turned : (slots : List (Option R)) (i q : ℕ) → i < length slots → q < length slots → tally (turned None slots i q) ≡ tally slots
  tally_turned slots i q hi hq =
      let here : Option R = get_or slots i None in
      let there : Option R = get_or slots q None in
      let first = tally_set slots i there hi in
      let second = tally_set (set slots i there) q here (omega (arith, hq, length-set slots i there)) in
      let same : get_or (set slots i there) q None ≡ there = elim (cases_eq q i) [
        | inl at ↦ ap (λ (k : ℕ). get_or (set slots i there) k None) at ∙ get_or-set_same slots i there None hi
        | inr off ↦ get_or-set_other slots i q there None off
      ] in
      let third = ap weigh same in
      omega (arith, first, second, third)

  -- where each from a slot on has a row that passes, they are as many
  pub many : (slots : List (Option R)) (from : ℕ) → ((k : ℕ) → from ≤ k → k < length slots → (row : R) × (get_or slots k None ≡ Some row) × (p row ≡ true)) → length slots ≤ from + tally slots
  many [] from all = omega arith
  many (x ∷ xs) zero all =
      let here = all 0 (omega arith) (omega arith) in
      let one : weigh x ≡ 1 = ap weigh here.1 ∙ ap counts here.2 in
      let rest = many xs zero (λ k low high. all (suc k) (omega arith) (omega (arith, high))) in
      let more = tally_cons x xs in
      omega (arith, one, rest, more)
  many (x ∷ xs) (suc from) all =
      let rest = many xs from (λ k low high. all (suc k) (omega (arith, low)) (omega (arith, high))) in
      let more = tally_cons x xs in
      omega (arith, rest, more)

-- the rows from a slot on, after those before slot i, may lie at none of some heights
pub record Pile {R : Type 0} (lf : R → ℕ) (leaf height i : ℕ) (now : List (Option R)) : Type 0 where
  pub heights : ℕ
  pub from : ℕ
  pub small : from ≤ 4 * heights
  pub low : from ≤ i
  pub within : heights ≤ height + 1
  pub some : (k : ℕ) → from ≤ k → k < i → HasRow now k
  pub above : (k : ℕ) (row : R) → from ≤ k → get_or now k None ≡ Some row → lies_above lf leaf heights row ≡ true

abbrev pub Clear : {R : Type 0} → ℕ → List (Option R) → Type 0
Clear {R} i now = (k : ℕ) (row : R) → i ≤ k → get_or now k None ≡ Some row → ⊥

-- no row is left, or those that are left lie above those slots
pub record Piled {R : Type 0} (lf : R → ℕ) (leaf height i : ℕ) (slots now : List (Option R)) : Type 0 where
  pub tally : (p : R → Bool) → length (filter p (rows now)) ≡ length (filter p (rows slots))
  pub pile : ((row : R) → lies_at lf leaf height row ≡ true) → Clear i now ⊎ Pile lf leaf height i now

pub piled_first : {R : Type 0} (lf : R → ℕ) (leaf height : ℕ) (slots : List (Option R)) → Piled lf leaf height 0 slots slots
piled_first lf leaf height slots = record {
  tally = λ p. refl;
  pile = λ rooted. inr (record {
    heights = 0;
    from = 0;
    small = omega arith;
    low = omega arith;
    within = omega arith;
    some = λ k low high. absurd (omega (arith, high));
    above = λ k row low is. refl;
  });
}

module _ {R : Type 0} (lf : R → ℕ) (leaf height i h : ℕ) (h_is : h ≡ min (i / 4) height) where
  -- the slot lies at a height of the path, or after it
  at_height : ((h ≡ i / 4) × (i / 4 ≤ height)) ⊎ (h ≡ height)
  at_height = elim (cases_lt height (i / 4)) [
    | inl past ↦ inr (omega (arith, h_is, past))
    | inr within ↦ inl (omega (arith, h_is, within), within)
  ]

  -- no row is left where none may lie in the root
  none_left : (now : List (Option R)) → ((row : R) → lies_at lf leaf height row ≡ true) → h ≡ height → NoneLies lf leaf h now i (length now) → (k : ℕ) (row : R) → i ≤ k → k < length now → get_or now k None ≡ Some row → ⊥
  none_left now rooted last none k row low high is =
      false≢true (sym (none.none k row low high is) ∙ ap (λ (n : ℕ). lies_at lf leaf n row) last ∙ rooted row)

  inside : (now : List (Option R)) (k : ℕ) (row : R) → get_or now k None ≡ Some row → k < length now
  inside now k row is = elim (cases_lt k (length now)) [
    | inl below ↦ below
    | inr past ↦ absurd (cc (get_or_past now k None past, is))
  ]

  -- slot i and one after it are exchanged
  module _ (now : List (Option R)) (q : ℕ) (low : i ≤ q) (high : q < length now) (less : i < length now) where
    abbrev exchanged : List (Option R)
    exchanged = turned None now i q

    abbrev From : R → Type 0
    From row = (m : ℕ) × (i ≤ m) × (get_or now m None ≡ Some row)

    moved_back : (k : ℕ) (row : R) → i + 1 ≤ k → get_or exchanged k None ≡ Some row → From row
    moved_back k row past is =
        turned_get None now i q k less high (λ (s : Option R). s ≡ Some row → From row)
        (λ same here. (i, omega arith, here))
        (λ off same here. (q, low, here))
        (λ off other here. (k, omega (arith, past), here))
        is

    clear_on : Clear i now → Clear (i + 1) exchanged
    clear_on clear k row past is = let m = moved_back k row past is in clear m.0 row m.1 m.2

    -- a row came there
    module _ (pile : Pile lf leaf height i now) (had : HasRow now q) where
      abbrev There : Option R → Type 0
      There s = (row : R) × (s ≡ Some row)

      some_on : (k : ℕ) → pile.from ≤ k → k < i + 1 → HasRow exchanged k
      some_on k from below =
          let found : There (get_or exchanged k None) = turned_get None now i q k less high There
          (λ same. let at : i ≡ q = omega (arith, same, below, low) in (had.row, ap (λ (m : ℕ). get_or now m None) at ∙ had.is))
          (λ off same. (had.row, had.is))
          (λ off other. let here = pile.some k from (omega (arith, below, other)) in (here.row, here.is)) in
          record { row = found.0; is = found.1 }

      above_on : (k : ℕ) (row : R) → pile.from ≤ k → get_or exchanged k None ≡ Some row → lies_above lf leaf pile.heights row ≡ true
      above_on k row from is =
          turned_get None now i q k less high (λ (s : Option R). s ≡ Some row → lies_above lf leaf pile.heights row ≡ true)
          (λ same here. pile.above i row pile.low here)
          (λ off same here. pile.above q row (omega (arith, pile.low, low)) here)
          (λ off other here. pile.above k row from here)
          is

      pile_row : Pile lf leaf height (i + 1) exchanged
      pile_row = record {
        heights = pile.heights;
        from = pile.from;
        small = pile.small;
        low = omega (arith, pile.low);
        within = pile.within;
        some = some_on;
        above = above_on;
      }

    -- or none may lie at its height
    pile_height : h ≡ i / 4 → i / 4 ≤ height → NoneLies lf leaf h now i (length now) → Pile lf leaf height (i + 1) exchanged
    pile_height at within none =
        let four = lt-mul-div-succ i {b = 4} (omega arith) in
        record {
          heights = suc h;
          from = i + 1;
          small = omega (arith, four, at);
          low = omega arith;
          within = omega (arith, at, within);
          some = λ k from below. absurd (omega (arith, from, below));
          above = λ k row from is.
              let m = moved_back k row from is in
              ap not (none.none m.0 row m.1 (inside now m.0 row m.2) m.2);
        }

    none_on : ((row : R) → lies_at lf leaf height row ≡ true) → h ≡ height → NoneLies lf leaf h now i (length now) → Clear (i + 1) exchanged
    none_on rooted last none k row past is =
        let m = moved_back k row past is in
        none_left now rooted last none m.0 row m.1 (inside now m.0 row m.2) m.2

  pub piled_more : (slots now after : List (Option R)) → i < length now → Piled lf leaf height i slots now → Turns lf leaf h i now after → Piled lf leaf height (i + 1) slots after
  piled_more slots now after less piled turns = record {
    tally = λ p. ap (λ (s : List (Option R)). length (filter p (rows s))) turns.is ∙ tally_turned p now i turns.place less turns.high ∙ piled.tally p;
    pile = λ rooted. subst (λ (s : List (Option R)). Clear (i + 1) s ⊎ Pile lf leaf height (i + 1) s) (sym turns.is) (elim (piled.pile rooted) [
      | inl clear ↦ inl (clear_on now turns.place turns.low turns.high less clear)
      | inr pile ↦ elim turns.had [
        | inl had ↦ inr (pile_row now turns.place turns.low turns.high less pile had)
        | inr none ↦ elim at_height [
          | inl at ↦ inr (pile_height now turns.place turns.low turns.high less at.0 at.1 none)
          | inr last ↦ inl (none_on now turns.place turns.low turns.high less rooted last none)
        ]
      ]
    ]);
  }

  -- all slots from there on have rows, and none may lie there
  pub crowded_stuck : (n : ℕ) (slots now after : List (Option R)) → length now ≡ n + 1 → i < n → Piled lf leaf height i slots now → Stuck lf leaf h i now after → ((row : R) → lies_at lf leaf height row ≡ true) → IsCrowded lf leaf height n (rows slots)
  crowded_stuck n slots now after size less piled stuck rooted = elim at_height [
    | inl at ↦
        let all = many (lies_above lf leaf (suc h)) now i (λ k low high. let here = stuck.each k low high in (here.row, here.is, ap not (stuck.none.none k here.row low high here.is))) in
        let same = piled.tally (lies_above lf leaf (suc h)) in
        let four = lt-mul-div-succ i {b = 4} (omega arith) in
        record { heights = suc h; within = omega (arith, at.0, at.1); over = omega (arith, all, same, size, four, at.0) }
    | inr last ↦
        let below : i < length now = omega (arith, size, less) in
        let here = stuck.each i (omega arith) below in
        absurd (none_left now rooted last stuck.none i here.row (omega arith) below here.is)
  ]

-- a row is left after the last slot
pub crowded_end : {R : Type 0} (lf : R → ℕ) (leaf height n i : ℕ) (slots now : List (Option R)) → i ≤ n → n ≤ i → length now ≡ n + 1 → Piled lf leaf height i slots now → (row : R) → get_or now n None ≡ Some row
    → ((row : R) → lies_at lf leaf height row ≡ true) → IsCrowded lf leaf height n (rows slots)
crowded_end {R} lf leaf height n i slots now most least size piled row is rooted = elim (piled.pile rooted) [
  | inl clear ↦ absurd (clear n row most is)
  | inr pile ↦
      let each = λ (k : ℕ) (low : pile.from ≤ k) (high : k < length now). row_of pile k low (cases_lt k i) high in
      let all = many (lies_above lf leaf pile.heights) now pile.from each in
      let same = piled.tally (lies_above lf leaf pile.heights) in
      record { heights = pile.heights; within = pile.within; over = omega (arith, all, same, size, pile.small) }
]
  where
    row_of : (pile : Pile lf leaf height i now) (k : ℕ) → pile.from ≤ k → (k < i) ⊎ (i ≤ k) → k < length now → (r : R) × (get_or now k None ≡ Some r) × (lies_above lf leaf pile.heights r ≡ true)
    row_of pile k low (inl below) high = let here = pile.some k low below in (here.row, here.is, pile.above k here.row low here.is)
    row_of pile k low (inr past) high =
        let at : k ≡ n = omega (arith, past, high, size, most, least) in
        let here : get_or now k None ≡ Some row = ap (λ (m : ℕ). get_or now m None) at ∙ is in
        (row, here, pile.above k row low here)
