-- The words of a mark's line.
use Rattle.std.proofs.Common.{◌≡◌, ◌≢◌, ◌<◌, ◌^◌, ℕ, zero, suc, Bool, true, ◌&&◌, nat_lt, List, [], ◌∷◌, ◌++◌, slice_index, length, ◌/◌, ◌%◌, codes, decimal, IsAscii, IsUtf8, Option, None, Some, Result, Ok, Err, MatchResult, refl, sym, subst, ap, ◌∙◌, arith}
use Rattle.std.proofs.lemmas.Bool.{and_parts, ltb-true}
use Rattle.std.proofs.lemmas.Fmt.{IsAscii-decimal, decimal_is_IsNumeral}
use Rattle.std.proofs.lemmas.Str.{IsUtf8-append, IsUtf8-from_ascii}
use Rattle.std.proofs.lemmas.Str.Ascii.{IsAscii-cons, IsAscii-nil}
use Rattle.std.proofs.lemmas.Str.Parse.{digit_at}
use Rattle.std.specs.Result.{result_ok}
use Rattle.hex.specs.Hex.{decode_sized, encode_lower, encode_with, lower_digits}
use Rattle.hex.specs.declared.error.FromHexError.{FromHexError}
use Rattle.hex.proofs.HexLemmas.{IsAscii-encode_with, decode_of-ok, decode_sized-encode_lower, decode_sized-ok, decode_sized-twice}
use Rattle.ob_reopen.specs.declared.mark.Mark.{Mark}
use Rattle.ob_reopen.specs.declared.mark.Mark.TheVariants.{Fresh, InUse, Closed, Begun, Saved}
use Rattle.ob_reopen.specs.Keepers.{AreMarked, AreSaltBytes}
use Rattle.ob_mark.specs.Marks.{HasNoBlank, Spells, bytes_text, numbers_text, salts_text}

-- ---- words
pub digits_are_word : (n : ℕ) → n < 2 ^ 64 → HasNoBlank (decimal n)
digits_are_word n few i below is =
    let range = digit_at (decimal n) i (decimal_is_IsNumeral n few).0.1 below in
    omega (arith, range.0, is)

word_more : (c : ℕ) (cs : List ℕ) → c ≢ 32 → HasNoBlank cs → HasNoBlank (c ∷ cs)
word_more c cs off word zero below = off
word_more c cs off word (suc i) below = word i (omega (arith, below))

word_none : HasNoBlank []
word_none i below is = omega (arith, below)

pub closed_is_word : HasNoBlank (codes "closed")
closed_is_word =
    word_more 99 (codes "losed") (λ is. cc is) (word_more 108 (codes "osed") (λ is. cc is) (word_more 111 (codes "sed") (λ is. cc is)
    (word_more 115 (codes "ed") (λ is. cc is) (word_more 101 (codes "d") (λ is. cc is) (word_more 100 [] (λ is. cc is) word_none)))))

pub saved_is_word : HasNoBlank (codes "saved")
saved_is_word =
    word_more 115 (codes "aved") (λ is. cc is) (word_more 97 (codes "ved") (λ is. cc is) (word_more 118 (codes "ed") (λ is. cc is)
    (word_more 101 (codes "d") (λ is. cc is) (word_more 100 [] (λ is. cc is) word_none))))

-- a digit of a table that has no blank
no_blank_in : (table : List ℕ) (i : ℕ) → ((k : ℕ) → k < length table → slice_index table k ≢ 32) → slice_index table i ≢ 32
no_blank_in [] i each is = absurd (cc is)
no_blank_in (c ∷ cs) zero each is = each zero (omega arith) is
no_blank_in (c ∷ cs) (suc i) each is = no_blank_in cs i (λ k below. each (suc k) (omega (arith, below))) is

hex_has_no_blank : HasNoBlank lower_digits
hex_has_no_blank =
    word_more 48 (codes "123456789abcdef") (λ is. cc is) (word_more 49 (codes "23456789abcdef") (λ is. cc is) (word_more 50 (codes "3456789abcdef") (λ is. cc is)
    (word_more 51 (codes "456789abcdef") (λ is. cc is) (word_more 52 (codes "56789abcdef") (λ is. cc is) (word_more 53 (codes "6789abcdef") (λ is. cc is)
    (word_more 54 (codes "789abcdef") (λ is. cc is) (word_more 55 (codes "89abcdef") (λ is. cc is) (word_more 56 (codes "9abcdef") (λ is. cc is)
    (word_more 57 (codes "abcdef") (λ is. cc is) (word_more 97 (codes "bcdef") (λ is. cc is) (word_more 98 (codes "cdef") (λ is. cc is)
    (word_more 99 (codes "def") (λ is. cc is) (word_more 100 (codes "ef") (λ is. cc is) (word_more 101 (codes "f") (λ is. cc is)
    (word_more 102 [] (λ is. cc is) word_none)))))))))))))))

pub hex_is_word : (bytes : List ℕ) → HasNoBlank (encode_lower bytes)
unfolding encode_with
hex_is_word [] = word_none
hex_is_word (b ∷ bytes) =
    word_more (slice_index lower_digits (b / 16)) (slice_index lower_digits (b % 16) ∷ encode_lower bytes)
    (no_blank_in lower_digits (b / 16) hex_has_no_blank)
    (word_more (slice_index lower_digits (b % 16)) (encode_lower bytes) (no_blank_in lower_digits (b % 16) hex_has_no_blank) (hex_is_word bytes))

-- ---- what follows each number
abbrev pub after_number : (pack : ℕ) → List ℕ → List ℕ
after_number pack end = decimal pack ++ end

abbrev pub after_blocks : (number pack : ℕ) → List ℕ → List ℕ
after_blocks number pack end = decimal number ++ (codes " " ++ after_number pack end)

abbrev pub after_region : (blocks number pack : ℕ) → List ℕ → List ℕ
after_region blocks number pack end = decimal blocks ++ (codes " " ++ after_blocks number pack end)

-- ---- the numbers by other names
pub marked_as : {a b c d r k n p : ℕ} → a ≡ r → b ≡ k → c ≡ n → d ≡ p → AreMarked r k n p → AreMarked a b c d
marked_as region blocks number pack is = record {
  region_least = omega (arith, region, is.region_least);
  region_most = omega (arith, region, is.region_most);
  blocks_least = omega (arith, blocks, is.blocks_least);
  blocks_most = omega (arith, blocks, is.blocks_most);
  number_least = omega (arith, number, is.number_least);
  number_most = omega (arith, number, is.number_most);
  pack_least = omega (arith, pack, is.pack_least);
  pack_most = omega (arith, pack, is.pack_most);
}

-- ---- it is a text
abbrev are_low : List ℕ → Bool
are_low [] = true
are_low (c ∷ cs) = nat_lt c 128 && are_low cs

low_ascii : (cs : List ℕ) → are_low cs ≡ true → IsAscii cs
low_ascii [] low = IsAscii-nil
low_ascii (c ∷ cs) low =
    let parts = and_parts (nat_lt c 128) (are_low cs) low in
    IsAscii-cons c cs (ltb-true c 128 parts.0) (low_ascii cs parts.1)

low_utf8 : (cs : List ℕ) → are_low cs ≡ true → IsUtf8 cs
low_utf8 cs low = IsUtf8-from_ascii cs (low_ascii cs low)

pub utf8_number : (n : ℕ) → n < 2 ^ 64 → IsUtf8 (decimal n)
utf8_number n few = IsUtf8-from_ascii (decimal n) (IsAscii-decimal n few)

utf8_more : (n : ℕ) (rest : List ℕ) → n < 2 ^ 64 → IsUtf8 rest → IsUtf8 (decimal n ++ (codes " " ++ rest))
utf8_more n rest few is = IsUtf8-append (decimal n) (codes " " ++ rest) (utf8_number n few) (IsUtf8-append (codes " ") rest (low_utf8 (codes " ") refl) is)

utf8_numbers : (region blocks number pack : ℕ) (end : List ℕ) → AreMarked region blocks number pack → IsUtf8 end → IsUtf8 (numbers_text region blocks number pack end)
utf8_numbers region blocks number pack end within last =
    let third = IsUtf8-append (decimal pack) end (utf8_number pack (omega (arith, within.pack_most))) last in
    let second = utf8_more number (after_number pack end) (omega (arith, within.number_most)) third in
    let first = utf8_more blocks (after_blocks number pack end) (omega (arith, within.blocks_most)) second in
    utf8_more region (after_region blocks number pack end) (omega (arith, within.region_most)) first

utf8_digits : (bytes : List ℕ) → IsUtf8 (encode_lower bytes)
utf8_digits bytes = IsUtf8-from_ascii (encode_lower bytes) (IsAscii-encode_with lower_digits bytes (low_ascii lower_digits refl))

pub utf8_bytes : (bytes : List ℕ) → IsUtf8 (bytes_text bytes)
utf8_bytes bytes = IsUtf8-append (encode_lower bytes) (codes "\n") (utf8_digits bytes) (low_utf8 (codes "\n") refl)

utf8_salts : (salt check : List ℕ) → IsUtf8 (codes " " ++ salts_text salt check)
utf8_salts salt check =
    let last = IsUtf8-append (codes " ") (bytes_text check) (low_utf8 (codes " ") refl) (utf8_bytes check) in
    IsUtf8-append (codes " ") (salts_text salt check) (low_utf8 (codes " ") refl)
    (IsUtf8-append (encode_lower salt) (codes " " ++ bytes_text check) (utf8_digits salt) last)

pub utf8_spelt : (text : List ℕ) (mark : Mark) → Spells text mark → IsUtf8 text
utf8_spelt text Fresh is = absurd is
utf8_spelt text InUse is = subst IsUtf8 (sym is) (low_utf8 (codes "in use\n") refl)
utf8_spelt text Begun is = subst IsUtf8 (sym is) (low_utf8 (codes "begun\n") refl)
utf8_spelt text (Closed region blocks number pack) (within, is) =
    let rest = utf8_numbers region blocks number pack (codes "\n") within (low_utf8 (codes "\n") refl) in
    subst IsUtf8 (sym is) (IsUtf8-append (codes "closed ") (numbers_text region blocks number pack (codes "\n")) (low_utf8 (codes "closed ") refl) rest)
utf8_spelt text (Saved region blocks number pack salt check) (within, salts, checks, is) =
    let end = codes " " ++ salts_text salt check in
    let rest = utf8_numbers region blocks number pack end within (utf8_salts salt check) in
    subst IsUtf8 (sym is) (IsUtf8-append (codes "saved ") (numbers_text region blocks number pack end) (low_utf8 (codes "saved ") refl) rest)

-- what a test refuses only where it isn't so
pub never_refused : {T E : Type 0} (r : Result T E) (P : T → Type 0) (Q : E → Type 0) (N : Type 0) → None ≡ result_ok r → MatchResult r P (λ e. ¬ N × Q e) → N → ⊥
never_refused (Ok x) P Q N is cases so = cc is
never_refused (Err e) P Q N is cases so = cases.0 so

-- what a test accepts is so
pub accepted : {T E : Type 0} (r : Result T E) (P : T → Type 0) (Q : E → Type 0) (x : T) → Some x ≡ result_ok r → MatchResult r P Q → P x
accepted (Ok y) P Q x is so = let same : x ≡ y = cc is in subst P (sym same) so
accepted (Err e) P Q x is so = absurd (cc is)

-- what reads the lines of a closing reads all except these two
pub reads_others : (line : List ℕ) (r : Option Mark) → (line ≡ codes "in use\n" → ⊥) → (line ≡ codes "begun\n" → ⊥)
    → ((region blocks number pack : ℕ) → Spells line (Closed region blocks number pack) → r ≡ Some (Closed region blocks number pack))
    → ((region blocks number pack : ℕ) (salt check : List ℕ) → Spells line (Saved region blocks number pack salt check) → r ≡ Some (Saved region blocks number pack salt check))
    → (mark : Mark) → Spells line mark → r ≡ Some mark
reads_others line r used begun closed saved Fresh is = absurd is
reads_others line r used begun closed saved InUse is = absurd (used is)
reads_others line r used begun closed saved Begun is = absurd (begun is)
reads_others line r used begun closed saved (Closed region blocks number pack) is = closed region blocks number pack is
reads_others line r used begun closed saved (Saved region blocks number pack salt check) is = saved region blocks number pack salt check is

-- ---- a salt's digits, by what their decoding answers
abbrev pub Decodes : List ℕ → Result Unit FromHexError → List ℕ → Type 0
Decodes digits r out = MatchResult (decode_sized digits 16) (λ bytes. (r ≡ Ok tt) × (out ≡ bytes)) (λ e. r ≡ Err e)

as_decoded : (digits out : List ℕ) (r : Result Unit FromHexError) (d : Result (List ℕ) FromHexError) → r ≡ Ok tt → decode_sized digits 16 ≡ d
    → MatchResult d (λ bytes. (r ≡ Ok tt) × (out ≡ bytes)) (λ e. r ≡ Err e) → AreSaltBytes out
as_decoded digits out r (Ok bytes) ok is (same, value) =
    let twice = decode_sized-ok digits 16 bytes is in
    let parts = decode_of-ok digits bytes (sym (decode_sized-twice digits 16 twice) ∙ is) in
    subst AreSaltBytes (sym value) (record { long = omega (arith, twice, parts.2); each = parts.3 })
as_decoded digits out r (Err e) ok is value = absurd (cc (ok, value))

-- what decodes is a salt
pub decoded_salt : (digits out : List ℕ) (r : Result Unit FromHexError) → r ≡ Ok tt → Decodes digits r out → AreSaltBytes out
decoded_salt digits out r ok value = as_decoded digits out r (decode_sized digits 16) ok refl value

-- a salt's digits decode to it
pub salt_decoded : (digits out salt : List ℕ) (r : Result Unit FromHexError) → AreSaltBytes salt → digits ≡ encode_lower salt → Decodes digits r out
    → (r ≡ Ok tt) × (out ≡ salt)
salt_decoded digits out salt r bytes is value =
    let read : decode_sized digits 16 ≡ Ok salt = ap (λ (s : List ℕ). decode_sized s 16) is ∙ decode_sized-encode_lower salt 16 bytes.long bytes.each in
    rw read at value
