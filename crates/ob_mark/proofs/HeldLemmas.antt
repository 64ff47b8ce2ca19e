-- A mark's text has one line, and with the store's line two.
use Rattle.std.proofs.Common.{◌≡◌, ◌≢◌, ◌<◌, ◌^◌, ◌+◌, ◌-◌, ◌*◌, ◌/◌, ◌%◌, ◌==◌, ℕ, zero, suc, Bool, true, false, List, [], ◌∷◌, ◌++◌, codes, decimal, length, slice_index, take, drop, Option, None, Some, is_some, refl, sym, subst, ap, ◌∙◌, arith}
use Rattle.std.proofs.lemmas.Bool.{eqb-true}
use Rattle.std.proofs.lemmas.Fmt.{decimal_is_IsNumeral}
use Rattle.std.proofs.lemmas.Str.Parse.{digit_at}
use Rattle.std.proofs.lemmas.List.{drop_at, length-append, take_at}
use Rattle.hex.specs.Hex.{encode_lower, encode_with, lower_digits}
use Rattle.hex.proofs.HexLemmas.{length-encode_with}
use Rattle.ob_reopen.specs.declared.mark.Mark.{Mark}
use Rattle.ob_reopen.specs.declared.mark.Mark.TheVariants.{Fresh, InUse, Closed, Begun, Saved}
use Rattle.ob_reopen.specs.Keepers.{AreMarked, AreSaltBytes}
use Rattle.ob_mark.specs.Marks.{HoldsMark, Spells, bytes_text, mark_text, numbers_text, salts_text, store_text}
use Rattle.ob_mark.specs.declared.identity.Held.{Held}

-- how many lines a text ends
abbrev breaks_by : Bool → ℕ → ℕ
breaks_by true n = suc n
breaks_by false n = n

abbrev pub breaks : List ℕ → ℕ
breaks [] = 0
breaks (c ∷ cs) = breaks_by (c == 10) (breaks cs)

breaks_more : (b : Bool) (n k : ℕ) → breaks_by b (n + k) ≡ breaks_by b n + k
breaks_more true n k = omega arith
breaks_more false n k = refl

breaks_append : (cs ds : List ℕ) → breaks (cs ++ ds) ≡ breaks cs + breaks ds
breaks_append [] ds = omega arith
breaks_append (c ∷ cs) ds = ap (breaks_by (c == 10)) (breaks_append cs ds) ∙ breaks_more (c == 10) (breaks cs) (breaks ds)

abbrev Unbroken : List ℕ → Type 0
Unbroken cs = (i : ℕ) → i < length cs → slice_index cs i ≢ 10

unbroken_by : (b : Bool) (n : ℕ) → (b ≡ true → ⊥) → n ≡ 0 → breaks_by b n ≡ 0
unbroken_by true n off is = absurd (off refl)
unbroken_by false n off is = is

no_breaks : (cs : List ℕ) → Unbroken cs → breaks cs ≡ 0
no_breaks [] each = refl
no_breaks (c ∷ cs) each = unbroken_by (c == 10) (breaks cs) (λ is. each zero (omega arith) (eqb-true c 10 is))
    (no_breaks cs (λ i below. each (suc i) (omega (arith, below))))

breaks_decimal : (n : ℕ) → n < 2 ^ 64 → breaks (decimal n) ≡ 0
breaks_decimal n few = no_breaks (decimal n) (λ i below is.
    let range = digit_at (decimal n) i (decimal_is_IsNumeral n few).0.1 below in omega (arith, range.0, is))

broken_first : (b : Bool) (n : ℕ) → breaks_by b n ≡ 0 → breaks_by b 0 ≡ 0
broken_first true n is = absurd (cc is)
broken_first false n is = refl

broken_rest : (b : Bool) (n : ℕ) → breaks_by b n ≡ 0 → n ≡ 0
broken_rest true n is = absurd (cc is)
broken_rest false n is = is

-- no digit of a table ends a line, nor what is no place of it
digit_breaks : (table : List ℕ) → breaks table ≡ 0 → (i : ℕ) → breaks_by (slice_index table i == 10) 0 ≡ 0
digit_breaks [] none i = refl
digit_breaks (c ∷ cs) none zero = broken_first (c == 10) (breaks cs) none
digit_breaks (c ∷ cs) none (suc i) = digit_breaks cs (broken_rest (c == 10) (breaks cs) none) i

broken_more : (b : Bool) (n : ℕ) → breaks_by b 0 ≡ 0 → n ≡ 0 → breaks_by b n ≡ 0
broken_more true n off is = absurd (cc off)
broken_more false n off is = is

breaks_digits : (bytes : List ℕ) → breaks (encode_lower bytes) ≡ 0
unfolding encode_with
breaks_digits [] = refl
breaks_digits (b ∷ bytes) =
    broken_more (slice_index lower_digits (b / 16) == 10) _ (digit_breaks lower_digits refl (b / 16))
    (broken_more (slice_index lower_digits (b % 16) == 10) _ (digit_breaks lower_digits refl (b % 16)) (breaks_digits bytes))

breaks_bytes : (bytes : List ℕ) → breaks (bytes_text bytes) ≡ 1
breaks_bytes bytes =
    let whole : breaks (bytes_text bytes) ≡ breaks (encode_lower bytes) + 1 = breaks_append (encode_lower bytes) (codes "\n") in
    omega (arith, whole, breaks_digits bytes)

breaks_word : (n : ℕ) (rest : List ℕ) → n < 2 ^ 64 → breaks (decimal n ++ rest) ≡ breaks rest
breaks_word n rest few = omega (arith, breaks_append (decimal n) rest, breaks_decimal n few)

breaks_numbers : (region blocks number pack : ℕ) (end : List ℕ) → AreMarked region blocks number pack
    → breaks (numbers_text region blocks number pack end) ≡ breaks end
breaks_numbers region blocks number pack end within =
    breaks_word region _ (omega (arith, within.region_most)) ∙ breaks_word blocks _ (omega (arith, within.blocks_most))
    ∙ breaks_word number _ (omega (arith, within.number_most)) ∙ breaks_word pack end (omega (arith, within.pack_most))

breaks_salts : (salt check : List ℕ) → breaks (salts_text salt check) ≡ 1
breaks_salts salt check =
    let whole : breaks (salts_text salt check) ≡ breaks (encode_lower salt) + breaks (bytes_text check) =
    breaks_append (encode_lower salt) (codes " " ++ bytes_text check) in
    omega (arith, whole, breaks_digits salt, breaks_bytes check)

breaks_mark : (text : List ℕ) (mark : Mark) → Spells text mark → breaks text ≡ 1
breaks_mark text Fresh is = absurd is
breaks_mark text InUse is = ap breaks is
breaks_mark text Begun is = ap breaks is
breaks_mark text (Closed region blocks number pack) (within, is) = ap breaks is ∙ breaks_numbers region blocks number pack (codes "\n") within
breaks_mark text (Saved region blocks number pack salt check) (within, salts, checks, is) =
    ap breaks is ∙ breaks_numbers region blocks number pack (codes " " ++ salts_text salt check) within ∙ breaks_salts salt check

no_rest : (cs : List ℕ) → cs ++ [] ≡ cs
no_rest [] = refl
no_rest (c ∷ cs) = ap (λ (l : List ℕ). c ∷ l) (no_rest cs)

-- one line isn't two
two_lines : (text : List ℕ) (one two : Mark) (id : List ℕ) → HoldsMark text (record { mark = one; id = None })
    → HoldsMark text (record { mark = two; id = Some id }) → ⊥
two_lines text one two id first second =
    let once : breaks text ≡ 1 = ap breaks (first.is ∙ no_rest (mark_text one)) ∙ breaks_mark (mark_text one) one first.mark in
    let twice = ap breaks second.is ∙ breaks_append (mark_text two) (store_text (Some id)) in
    let front = breaks_mark (mark_text two) two second.mark in
    let back : breaks (store_text (Some id)) ≡ 1 = breaks_bytes id in
    omega (arith, once, twice, front, back)

one_of_two : (text : List ℕ) (one two : Mark) (id : Option (List ℕ)) → is_some id ≡ true → HoldsMark text (record { mark = two; id = id })
    → HoldsMark text (record { mark = one; id = None }) → ⊥
one_of_two text one two None some second first = absurd (cc some)
one_of_two text one two (Some id) some second first = two_lines text one two id first second

-- a text of two lines that was read
pub read_two : (text : List ℕ) (b : Held) → HoldsMark text b → is_some b.id ≡ true
    → ((mark : Mark) (id : List ℕ) → HoldsMark text (record { mark = mark; id = Some id }) → Some b ≡ Some (record { mark = mark; id = Some id }))
    → (mark : Mark) (id : Option (List ℕ)) → HoldsMark text (record { mark = mark; id = id }) → Some b ≡ Some (record { mark = mark; id = id })
read_two text b holds some reads mark None is = absurd (one_of_two text mark b.mark b.id some holds is)
read_two text b holds some reads mark (Some id) is = reads mark id is

-- ---- where the second line begins
pub store_long : (id : List ℕ) → AreSaltBytes id → length (store_text (Some id)) ≡ 39
store_long id bytes =
    let digits = length-encode_with lower_digits id in
    let whole = length-append (encode_lower id) (codes "\n") in
    omega (arith, digits, whole, bytes.long)

pub front_long : (text front back : List ℕ) → text ≡ front ++ back → length back ≡ 39 → length front ≡ length text - 39
front_long text front back is long = omega (arith, ap length is, length-append front back, long)

pub no_shorter : (text front back : List ℕ) → text ≡ front ++ back → length back ≡ 39 → length text < 39 → ⊥
no_shorter text front back is long short = omega (arith, ap length is, length-append front back, long, short)

pub front_is : (text front back : List ℕ) (n : ℕ) → text ≡ front ++ back → length front ≡ n → take n text ≡ front
front_is text front back n is long = ap (take n) is ∙ take_at front back n long

pub back_is : (text front back : List ℕ) (n : ℕ) → text ≡ front ++ back → length front ≡ n → drop n text ≡ back
back_is text front back n is long = ap (drop n) is ∙ drop_at front back n long
