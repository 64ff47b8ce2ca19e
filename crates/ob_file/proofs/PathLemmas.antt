-- Where the last slash of a path stands.
use Rattle.std.proofs.Common.{◌≡◌, ◌≢◌, ◌∙◌, ◌+◌, ◌-◌, ◌<◌, ◌≤◌, ℕ, not, List, [], ◌∷◌, length, slice_index, take, drop, add-one, ap, arith, sym}
use Rattle.std.proofs.lemmas.Bool.{eq-eqb, ne_eqb}
use Rattle.std.proofs.lemmas.List.Sums.{suffix_len_is}
use Rattle.std.specs.List.{suffix_len}
use Rattle.ob_file.specs.Paths.{folder_by, folder_part, is_slash, last_part}

-- the place after it
up_to : (path : List ℕ) (n : ℕ) → n ≤ length path → ((k : ℕ) → n ≤ k → k < length path → slice_index path k ≢ 47)
    → (0 < n → slice_index path (n - 1) ≡ 47) → length path - suffix_len (λ c. not (is_slash c)) path ≡ n
up_to path n fits none is =
    let long = suffix_len_is (λ c. not (is_slash c)) path n 0 fits (λ k low high. ap not (ne_eqb _ 47 (none k low high))) (λ some. ap not (eq-eqb _ 47 (is some))) in
    omega (arith, long, fits)

some_of : (path : List ℕ) (n : ℕ) → n < length path → folder_by (take (n + 1) path) ≡ take (n + 1) path
some_of [] n fits = absurd (omega (arith, fits))
some_of (c ∷ cs) n fits = ap (λ k. folder_by (take k (c ∷ cs))) (add-one n) ∙ sym (ap (λ k. take k (c ∷ cs)) (add-one n))

-- a path with a slash
pub behind_slash : (path front back : List ℕ) (k : ℕ) → k < length path → slice_index path k ≡ 47
    → ((i : ℕ) → k < i → i < length path → slice_index path i ≢ 47) → front ≡ take (k + 1) path → back ≡ drop (k + 1) path
    → (front ≡ folder_part path) × (back ≡ last_part path)
behind_slash path front back k inside is none first last =
    let at = up_to path (k + 1) (omega (arith, inside)) (λ i low high. none i (omega (arith, low)) high) (λ some. ap (slice_index path) (omega arith) ∙ is) in
    (first ∙ sym (some_of path k inside) ∙ ap (λ n. folder_by (take n path)) (sym at), last ∙ ap (λ n. drop n path) (sym at))

-- and one without
pub no_slash : (path : List ℕ) → ((i : ℕ) → i < length path → slice_index path i ≢ 47) → (46 ∷ 47 ∷ [] ≡ folder_part path) × (path ≡ last_part path)
no_slash path none =
    let at = up_to path 0 (omega arith) (λ k low high. none k high) (λ some. absurd (omega (arith, some))) in
    (ap (λ n. folder_by (take n path)) (sym at), ap (λ n. drop n path) (sym at))
