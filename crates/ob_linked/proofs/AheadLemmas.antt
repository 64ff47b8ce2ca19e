-- Operations that are named before they are done.
use Rattle.std.specs.Prelude.{if◌then◌else◌}
use Rattle.std.proofs.Common.{◌≡◌, ℕ, List, [], ◌∷◌, ◌++◌, Option, Some, None, refl, sym, ap, ◌∙◌}
use Rattle.ob_path.specs.Access.{Went, access}
use Rattle.ob_path.specs.States.{State}
use Rattle.ob_tree.specs.Runs.{run, goes}
use Rattle.ob_linked.specs.Ahead.{Text, Unnamed, Named, Rested, state_behind, woken, if_answered, then_served, unless_full, served, named, given}

module _ {R : Type 0} (key : R → ℕ) (h : ℕ) where
  -- nothing is answered once the operation that the mark names fills the stash
  none_served : (texts : List (Text R)) (r : Rested R) → woken key h r ≡ None → (served key h r texts).answers ≡ []
  none_served [] r full = refl
  none_served (Unnamed op ∷ texts) r full = none_served texts r full
  none_served (Named op draw answered ∷ texts) r full =
      ap (λ o. (unless_full r o (λ s. then_served (if_answered answered (access key h s op draw)) (served key h (record { before = s; last = Some (op, draw) }) texts))).answers) full

  pub as_one : (texts : List (Text R)) (r : Rested R) (s : State R) → woken key h r ≡ Some s → (served key h r texts).answers ≡ given texts (run key h s (named texts)).gots
  as_one [] r s is = refl
  as_one (Unnamed op ∷ texts) r s is = as_one texts r s is
  as_one (Named op draw answered ∷ texts) r s is =
      ap (λ o. (unless_full r o (λ t. then_served (if_answered answered (access key h t op draw)) (served key h (record { before = t; last = Some (op, draw) }) texts))).answers) is
      ∙ by (λ t. as_one texts (record { before = s; last = Some (op, draw) }) t) (access key h s op draw) refl
    where
      next : Rested R
      next = record { before = s; last = Some (op, draw) }

      by : ((t : State R) → woken key h next ≡ Some t → (served key h next texts).answers ≡ given texts (run key h t (named texts)).gots) → (o : Option (Went R)) → access key h s op draw ≡ o → if_answered answered (access key h s op draw) ++ (served key h next texts).answers ≡ given (Named op draw answered ∷ texts) (goes s (λ to. run key h to (named texts)) (access key h s op draw)).gots
      by more None full =
          ap (λ o. if_answered answered o ++ (served key h next texts).answers) full
          ∙ none_served texts next (ap state_behind full)
          ∙ sym (ap (λ o. given (Named op draw answered ∷ texts) (goes s (λ to. run key h to (named texts)) o).gots) full)
      by more (Some w) goes_on =
          ap (λ o. if_answered answered o ++ (served key h next texts).answers) goes_on
          ∙ ap (λ xs. (if answered then w.got ∷ [] else []) ++ xs) (more w.state (ap state_behind goes_on))
          ∙ sym (ap (λ o. given (Named op draw answered ∷ texts) (goes s (λ to. run key h to (named texts)) o).gots) goes_on)
