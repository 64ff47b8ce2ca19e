-- A statement that asks nothing: one that was served with the one before it, or refused before any access.
use Rattle.std.proofs.Common.{◌≡◌, ℕ, ◌+◌, List, [], None, ◌∙◌, ap, arith}
use Rattle.ob_base.specs.declared.access.Access.{Access}
use Rattle.ob_base.specs.declared.config.Public.{Public}
use Rattle.ob_base.specs.declared.seen.Seen.{Seen}
use Rattle.ob_base.specs.declared.seen.End.{End}
use Rattle.ob_base.specs.declared.seen.End.TheVariants.{Batched, Static}
use Rattle.ob_base.specs.declared.skeleton.Skeleton.{Skeleton}
use Rattle.ob_base.specs.Accesses.{makes}
use Rattle.ob_script.specs.Saved.{left_then}
use Rattle.ob_script.specs.Script.{closing_then, script, until_end, whole_script}
use Rattle.ob_script.specs.Tables.{tables_then}
use Rattle.ob_script.specs.Trace.{next}

none_made : (n : ℕ) → n + makes [] ≡ n
unfolding makes
none_made n = omega arith

pub static_stays : (p : Public) (s : Skeleton) → next p s (record { k = None; plan = None; then = None; leaf = None; end = Static }) ≡ p
static_stays p s = λ i. record p { next_region = none_made p.next_region i }

module _ (p : Public) (s : Skeleton) (seen : Seen) (is : seen.end ≡ Batched) where
  pub asks_none : script p s seen ≡ []
  asks_none = ap (λ (e : End). until_end e (whole_script p s seen)) is

  pub leaves_nothing : left_then p s seen.end ≡ None
  leaves_nothing = ap (left_then p s) is

  region_stays : p.next_region + makes (script p s seen) ≡ p.next_region
  region_stays = ap (λ (l : List Access). p.next_region + makes l) asks_none ∙ none_made p.next_region

  pub stays_public : next p s seen ≡ p
  stays_public = λ i. record p { tables = tables_then p s (is i); next_region = region_stays i; closing = closing_then p s (is i) }
