-- What the buffer knows of the open rows, while they are put in their places.
use Rattle.std.proofs.Common.{◌≡◌, ◌⊎◌, ◌<◌, ◌≤◌, ℕ, true, false, List, Option, Some, None, length, get_or, inl, inr, refl, sym, ◌∙◌, ap, subst, arith}
use Rattle.std.proofs.Common.{[], ◌∷◌}
use Rattle.std.proofs.lemmas.Bool.{cases_lt}
use Rattle.std.proofs.lemmas.List.{get_or_past}
use Rattle.std.specs.Option.{option_map}
use Rattle.std.specs.Prelude.{IsSome}
use Rattle.ob_base.specs.Schemas.{Columns}
use Rattle.ob_vault.specs.Rows.{SameSizes, row_at}
use Rattle.ob_flat.specs.Slots.{Spelt}
use Rattle.ob_row.specs.Rows.{Row}
use Rattle.ob_row.specs.Slots.{Slots}
use Rattle.ob_row.specs.Spelling.{Begins}
use Rattle.ob_tree.specs.Places.{lies_at, IsLeast, NoneLies}
use Rattle.ob_path.specs.Rows.{rows, Single}
use Rattle.ob_tree.proofs.StepLemmas.{picked, emptied, stuck}
use Rattle.ob_oram.specs.declared.held.Held.{Held}
use Rattle.ob_oram.specs.Buffers.{held_key, held_leaf, held_of, turned, HasRow, IsBuffer, IsCrowded, Sees, Steps, Places}
use Rattle.ob_oram.proofs.Crowding.{length-turned, turned_get}
use Rattle.ob_tree.proofs.GoingLemmas.{Going, going_end}
use Rattle.std.proofs.lemmas.Bool.{false≢true}

-- what a held row stands for
record IsHeldBy (key lf : Row → ℕ) (held : Held) (slot : Option Row) : Type 0 where
  row : Row
  is : slot ≡ Some row
  same : held_of key lf row ≡ held

held_by : (key lf : Row → ℕ) (held : Held) (slot : Option Row) → option_map (held_of key lf) slot ≡ Some held → IsHeldBy key lf held slot
held_by key lf held None is = absurd (cc is)
held_by key lf held (Some row) is = record { row = row; is = refl; same = cc is }

has_row : (slots : Slots) (k : ℕ) (slot : Option Row) → get_or slots k None ≡ slot → IsSome slot → HasRow slots k
has_row slots k None is some = absurd (false≢true some)
has_row slots k (Some row) is some = record { row = row; is = is }

none_held : (key lf : Row → ℕ) (slot : Option Row) → option_map (held_of key lf) slot ≡ None → slot ≡ None
none_held key lf None is = refl
none_held key lf (Some row) is = absurd (cc is)

module _ (columns : Columns) (key lf : Row → ℕ) (slots : Slots) (buffer : List (Option Held)) (list : List (List ℕ)) (sees : Sees columns key lf slots buffer list) where
  -- what may lie where
  lies_seen : (leaf height : ℕ) (row : Row) (held : Held) → held_of key lf row ≡ held → lies_at lf leaf height row ≡ lies_at held_leaf leaf height held
  lies_seen leaf height row held same = ap (λ (h : Held). lies_at held_leaf leaf height h) same

  pub none_seen : (leaf height from to : ℕ) → NoneLies held_leaf leaf height buffer from to → NoneLies lf leaf height slots from to
  none_seen leaf height from to none = record {
    none = λ k row low high is.
        none.none k (held_of key lf row) low high (sees.held k ∙ ap (option_map (held_of key lf)) is);
  }

  pub least_seen : (leaf height from to place least : ℕ) → IsLeast held_key held_leaf leaf height buffer from to place least → IsLeast key lf leaf height slots from to place least
  least_seen leaf height from to place least is =
      let here = held_by key lf is.row (get_or slots place None) (sym (sees.held place) ∙ is.here) in
      record {
        low = is.low;
        high = is.high;
        row = here.row;
        here = here.is;
        same_key = ap held_key here.same ∙ is.same_key;
        lies = lies_seen leaf height here.row is.row here.same ∙ is.lies;
        least = λ k other low high at lies.
            let less = is.least k (held_of key lf other) low high (sees.held k ∙ ap (option_map (held_of key lf)) at) lies in
            subst (λ (n : ℕ). n ≤ key other) (sym (ap held_key here.same)) less;
      }

  pub empty_seen : (k : ℕ) → get_or buffer k None ≡ None → get_or slots k None ≡ None
  empty_seen k is = none_held key lf (get_or slots k None) (sym (sees.held k) ∙ is)

  pub row_seen : (k : ℕ) (held : Held) → get_or buffer k None ≡ Some held → (row : Row) × (get_or slots k None ≡ Some row)
  row_seen k held is = let here = held_by key lf held (get_or slots k None) (sym (sees.held k) ∙ is) in (here.row, here.is)

  some_slot : (slot : Option Row) → IsSome (option_map (held_of key lf) slot) → IsSome slot
  some_slot None is = is
  some_slot (Some row) is = is

  pub some_seen : (k : ℕ) → IsSome (get_or buffer k None) → IsSome (get_or slots k None)
  some_seen k is = some_slot (get_or slots k None) (subst IsSome (sees.held k) is)

  -- two rows exchanged
  pub turned_sees : (i q : ℕ) → i < length buffer → q < length buffer → Sees columns key lf (turned None slots i q) (turned None buffer i q) (turned [] list i q)
  turned_sees i q hi hq =
      let si : i < length slots = omega (arith, hi, sees.count) in
      let sq : q < length slots = omega (arith, hq, sees.count) in
      let li : i < length list = omega (arith, hi, sees.same) in
      let lq : q < length list = omega (arith, hq, sees.same) in
      record {
        count = length-turned None slots i q ∙ sees.count ∙ sym (length-turned None buffer i q);
        same = length-turned [] list i q ∙ sees.same ∙ sym (length-turned None buffer i q);
        begins = λ j below.
            let inside : j < length buffer = omega (arith, below, length-turned None buffer i q) in
            turned_get None slots i q j si sq (λ (s : Option Row). Begins columns s (row_at (turned [] list i q) j))
            (λ same. turned_get [] list i q j li lq (λ (r : List ℕ). Begins columns (get_or slots i None) r) (λ _. sees.begins i hi) (λ off _. absurd (off same)) (λ off _. absurd (off same)))
            (λ off same. turned_get [] list i q j li lq (λ (r : List ℕ). Begins columns (get_or slots q None) r) (λ at. absurd (off at)) (λ _ _. sees.begins q hq) (λ _ other. absurd (other same)))
            (λ off other. turned_get [] list i q j li lq (λ (r : List ℕ). Begins columns (get_or slots j None) r) (λ at. absurd (off at)) (λ _ at. absurd (other at)) (λ _ _. sees.begins j inside));
        held = λ j.
            turned_get None slots i q j si sq (λ (s : Option Row). get_or (turned None buffer i q) j None ≡ option_map (held_of key lf) s)
            (λ same. turned_get None buffer i q j hi hq (λ (h : Option Held). h ≡ option_map (held_of key lf) (get_or slots i None)) (λ _. sees.held i) (λ off _. absurd (off same)) (λ off _. absurd (off same)))
            (λ off same. turned_get None buffer i q j hi hq (λ (h : Option Held). h ≡ option_map (held_of key lf) (get_or slots q None)) (λ at. absurd (off at)) (λ _ _. sees.held q) (λ _ other. absurd (other same)))
            (λ off other. turned_get None buffer i q j hi hq (λ (h : Option Held). h ≡ option_map (held_of key lf) (get_or slots j None)) (λ at. absurd (off at)) (λ _ at. absurd (other at)) (λ _ _. sees.held j));
      }

  -- the least row, or an empty slot, goes to slot i
  pub step_least : (leaf height i q least : ℕ) → IsLeast held_key held_leaf leaf height buffer i (length buffer) q least → Steps key lf leaf height i slots (turned None slots i q) true
  step_least leaf height i q least is =
      let seen = least_seen leaf height i (length buffer) q least is in
      let high : q < length slots = omega (arith, is.high, sees.count) in
      let whole = subst (λ (n : ℕ). IsLeast key lf leaf height slots i n q least) (sym sees.count) seen in
      record {
        step = λ single. picked key lf leaf height i q slots is.low high single least whole;
        moved = record { place = q; low = is.low; high = high; is = refl; had = inl (record { row = seen.row; is = seen.here }) };
      }

  pub step_empty : (leaf height i q : ℕ) → i ≤ q → q < length buffer → NoneLies held_leaf leaf height buffer i (length buffer) → get_or buffer q None ≡ None → Steps key lf leaf height i slots (turned None slots i q) true
  step_empty leaf height i q low high none empty =
      let whole = subst (λ (n : ℕ). NoneLies lf leaf height slots i n) (sym sees.count) (none_seen leaf height i (length buffer) none) in
      let inside : q < length slots = omega (arith, high, sees.count) in
      record {
        step = λ single. emptied key lf leaf height i q slots low inside single whole (empty_seen q empty);
        moved = record { place = q; low = low; high = inside; is = refl; had = inr whole };
      }

  pub step_full : (leaf height i : ℕ) → NoneLies held_leaf leaf height buffer i (length buffer) → ((k : ℕ) → i ≤ k → k < length buffer → IsSome (get_or buffer k None)) → Steps key lf leaf height i slots slots false
  step_full leaf height i none each =
      let whole = subst (λ (n : ℕ). NoneLies lf leaf height slots i n) (sym sees.count) (none_seen leaf height i (length buffer) none) in
      let some = λ (k : ℕ) (low : i ≤ k) (high : k < length slots). some_seen k (each k low (omega (arith, high, sees.count))) in
      record {
        step = λ single. stuck key lf leaf height i slots whole some;
        moved = record { is = refl; none = whole; each = λ k low high. has_row slots k (get_or slots k None) refl (some k low high) };
      }

-- after the last slot
module _ (key lf : Row → ℕ) (leaf height n i : ℕ) (slots now : Slots) (most : i ≤ n) (least : n ≤ i) (go : Single key (rows slots) → Going key lf leaf height n i slots now) where
  whole : Single key (rows slots) → Going key lf leaf height n n slots now
  whole single = let last : i ≡ n = omega (arith, most, least) in subst (λ (k : ℕ). Going key lf leaf height n k slots now) last (go single)

  pub placed_all : get_or now n None ≡ None → Places key lf leaf height n slots now true
  placed_all is = record {
    placed = λ single _. (going_end key lf leaf height n slots now (whole single)).0;
    full = λ single. ((λ _. (going_end key lf leaf height n slots now (whole single)).1 ∙ ap (λ (s : Option Row). length (rows (s ∷ []))) is), (λ _. refl));
    crowded = λ no rooted. absurd (false≢true (sym no));
  }

  pub placed_not : (row : Row) → get_or now n None ≡ Some row → (((row : Row) → lies_at lf leaf height row ≡ true) → IsCrowded lf leaf height n (rows slots)) → Places key lf leaf height n slots now false
  placed_not row is crowded = record {
    placed = λ single never. absurd (false≢true never);
    full = λ single.
        let one = (going_end key lf leaf height n slots now (whole single)).1 ∙ ap (λ (s : Option Row). length (rows (s ∷ []))) is in
        ((λ never. absurd (false≢true never)), (λ none. absurd (cc (none, one))));
    crowded = λ no. crowded;
  }

-- rows of one width, and others of the same sizes
pub same_buffer : (w : ℕ) (a b : List (List ℕ)) → SameSizes a b → IsBuffer w a → IsBuffer w b
same_buffer w a b same is = record { wide = λ j below. same.sizes j ∙ is.wide j (omega (arith, below, same.count)) }

pub buffer_same : (w : ℕ) (a b : List (List ℕ)) → length b ≡ length a → IsBuffer w a → IsBuffer w b → SameSizes a b
buffer_same w a b count first second = record { count = count; sizes = λ j. at j (cases_lt j (length a)) }
  where
    at : (j : ℕ) → (j < length a) ⊎ (length a ≤ j) → length (row_at b j) ≡ length (row_at a j)
    at j (inl inside) = second.wide j (omega (arith, inside, count)) ∙ sym (first.wide j inside)
    at j (inr past) = ap length (get_or_past b j [] (omega (arith, past, count)) ∙ sym (get_or_past a j [] past))

-- the rows of a buffer spell its slots
pub sees_spelt : (columns : Columns) (key lf : Row → ℕ) (slots : Slots) (buffer : List (Option Held)) (list : List (List ℕ)) → Sees columns key lf slots buffer list → Spelt columns slots list
sees_spelt columns key lf slots buffer list sees = record { count = sees.count ∙ sym sees.same; each = λ j below. sees.begins j (omega (arith, below, sees.same)) }
