use Rattle.std.proofs.Common.{◌≡◌, inl, inr, ℕ, true, false, sym, ◌∙◌, ap, arith, rules}
use Rattle.std.proofs.lemmas.Bool.{cases_eq}
use Rattle.std.proofs.lemmas.Bool.Decides.{nat_tests}
use Rattle.std.proofs.lemmas.Map.Entries.{lookup-filter-keys}
use Rattle.std.proofs.lemmas.Map.Made.{filter_same_pairs}
use Rattle.std.specs.BTreeMap.{is_at}
use Rattle.std.specs.BTreeSet.{contains}
use Rattle.std.specs.Map.{lookup}
use Rattle.std.specs.Ordering.{nat_cmp}
use Rattle.ob_meddle.proofs.regions.keep_usable.Goals as goal

-- a key that compares equal is the same
same_key : (q k : ℕ) → is_at (nat_cmp q) k ≡ true → k ≡ q
same_key q k is = elim (cases_eq q k) [
  | inl same ↦ sym same
  | inr off ↦ let not : is_at (nat_cmp q) k ≡ false = grind (arith, nat_tests) in absurd (cc (is, not))
]

pub returns : goal.returns
returns c =
    let usable = c.args.usable.now in
    let kept = filter_same_pairs _ (λ e. contains nat_cmp usable e.0) _ (λ k v b w f' t. search rules) _ _ c.retain.ensures.filtered in
    λ q. ap (λ es. lookup (is_at (nat_cmp q)) es) kept
    ∙ lookup-filter-keys (is_at (nat_cmp q)) (contains nat_cmp usable) (contains nat_cmp usable q) (λ k is. ap (contains nat_cmp usable) (same_key q k is)) _
