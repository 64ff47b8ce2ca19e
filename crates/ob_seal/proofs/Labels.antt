-- What is hashed under a secret is apart for each salt and each purpose.
use Rattle.std.proofs.Common.{◌≡◌, ◌≢◌, ℕ, arith, List, length, get_or, Option, Some, None, refl, ap}
use Rattle.ob_seal.specs.Sealed.{IsSalt, check_label, cipher_label, draw_label, mac_label}

pub ciphers_apart : (s t : Option (List ℕ)) → IsSalt s → IsSalt t → cipher_label s ≡ cipher_label t → s ≡ t
ciphers_apart None None is_s is_t same = refl
ciphers_apart None (Some t) is_s is_t same = absurd (omega (arith, ap length same, is_t))
ciphers_apart (Some s) None is_s is_t same = absurd (omega (arith, ap length same, is_s))
ciphers_apart (Some s) (Some t) is_s is_t same = let e : s ≡ t = cc same in ap Some e

pub tags_apart : (s t : Option (List ℕ)) → IsSalt s → IsSalt t → mac_label s ≡ mac_label t → s ≡ t
tags_apart None None is_s is_t same = refl
tags_apart None (Some t) is_s is_t same = absurd (omega (arith, ap length same, is_t))
tags_apart (Some s) None is_s is_t same = absurd (omega (arith, ap length same, is_s))
tags_apart (Some s) (Some t) is_s is_t same = let e : s ≡ t = cc same in ap Some e

pub draws_apart : (s t : Option (List ℕ)) → IsSalt s → IsSalt t → draw_label s ≡ draw_label t → s ≡ t
draws_apart None None is_s is_t same = refl
draws_apart None (Some t) is_s is_t same = absurd (omega (arith, ap length same, is_t))
draws_apart (Some s) None is_s is_t same = absurd (omega (arith, ap length same, is_s))
draws_apart (Some s) (Some t) is_s is_t same = let e : s ≡ t = cc same in ap Some e

pub checks_apart : (s t : Option (List ℕ)) → IsSalt s → IsSalt t → check_label s ≡ check_label t → s ≡ t
checks_apart None None is_s is_t same = refl
checks_apart None (Some t) is_s is_t same = absurd (omega (arith, ap length same, is_t))
checks_apart (Some s) None is_s is_t same = absurd (omega (arith, ap length same, is_s))
checks_apart (Some s) (Some t) is_s is_t same = let e : s ≡ t = cc same in ap Some e

-- they differ in one byte
abbrev byte : ℕ → List ℕ → ℕ
byte i label = get_or label i 0

pub cipher_or_tag : (s t : Option (List ℕ)) → IsSalt s → IsSalt t → cipher_label s ≢ mac_label t
cipher_or_tag None None is_s is_t same = let e : 101 ≡ 109 = ap (byte 7) same in absurd (omega (arith, e))
cipher_or_tag None (Some t) is_s is_t same = let e : 101 ≡ 114 = ap (byte 7) same in absurd (omega (arith, e))
cipher_or_tag (Some s) None is_s is_t same = let e : 114 ≡ 109 = ap (byte 7) same in absurd (omega (arith, e))
cipher_or_tag (Some s) (Some t) is_s is_t same = let e : 101 ≡ 109 = ap (byte 11) same in absurd (omega (arith, e))

pub cipher_or_draw : (s t : Option (List ℕ)) → IsSalt s → IsSalt t → cipher_label s ≢ draw_label t
cipher_or_draw None None is_s is_t same = let e : 101 ≡ 100 = ap (byte 7) same in absurd (omega (arith, e))
cipher_or_draw None (Some t) is_s is_t same = let e : 101 ≡ 114 = ap (byte 7) same in absurd (omega (arith, e))
cipher_or_draw (Some s) None is_s is_t same = let e : 114 ≡ 100 = ap (byte 7) same in absurd (omega (arith, e))
cipher_or_draw (Some s) (Some t) is_s is_t same = let e : 101 ≡ 100 = ap (byte 11) same in absurd (omega (arith, e))

pub tag_or_draw : (s t : Option (List ℕ)) → IsSalt s → IsSalt t → mac_label s ≢ draw_label t
tag_or_draw None None is_s is_t same = let e : 109 ≡ 100 = ap (byte 7) same in absurd (omega (arith, e))
tag_or_draw None (Some t) is_s is_t same = let e : 109 ≡ 114 = ap (byte 7) same in absurd (omega (arith, e))
tag_or_draw (Some s) None is_s is_t same = let e : 114 ≡ 100 = ap (byte 7) same in absurd (omega (arith, e))
tag_or_draw (Some s) (Some t) is_s is_t same = let e : 109 ≡ 100 = ap (byte 11) same in absurd (omega (arith, e))

pub cipher_or_check : (s t : Option (List ℕ)) → IsSalt s → IsSalt t → cipher_label s ≢ check_label t
cipher_or_check None None is_s is_t same = let e : 101 ≡ 99 = ap (byte 7) same in absurd (omega (arith, e))
cipher_or_check None (Some t) is_s is_t same = let e : 101 ≡ 114 = ap (byte 7) same in absurd (omega (arith, e))
cipher_or_check (Some s) None is_s is_t same = let e : 114 ≡ 99 = ap (byte 7) same in absurd (omega (arith, e))
cipher_or_check (Some s) (Some t) is_s is_t same = let e : 101 ≡ 99 = ap (byte 11) same in absurd (omega (arith, e))

pub tag_or_check : (s t : Option (List ℕ)) → IsSalt s → IsSalt t → mac_label s ≢ check_label t
tag_or_check None None is_s is_t same = let e : 109 ≡ 99 = ap (byte 7) same in absurd (omega (arith, e))
tag_or_check None (Some t) is_s is_t same = let e : 109 ≡ 114 = ap (byte 7) same in absurd (omega (arith, e))
tag_or_check (Some s) None is_s is_t same = let e : 114 ≡ 99 = ap (byte 7) same in absurd (omega (arith, e))
tag_or_check (Some s) (Some t) is_s is_t same = let e : 109 ≡ 99 = ap (byte 11) same in absurd (omega (arith, e))

pub draw_or_check : (s t : Option (List ℕ)) → IsSalt s → IsSalt t → draw_label s ≢ check_label t
draw_or_check None None is_s is_t same = let e : 100 ≡ 99 = ap (byte 7) same in absurd (omega (arith, e))
draw_or_check None (Some t) is_s is_t same = let e : 100 ≡ 114 = ap (byte 7) same in absurd (omega (arith, e))
draw_or_check (Some s) None is_s is_t same = let e : 114 ≡ 99 = ap (byte 7) same in absurd (omega (arith, e))
draw_or_check (Some s) (Some t) is_s is_t same = let e : 100 ≡ 99 = ap (byte 11) same in absurd (omega (arith, e))
