-- Tables are put in order of their names, one after the other.
use Rattle.std.proofs.Common.{◌≡◌, ℕ, List, [], ◌∷◌, ◌++◌, refl, sym, ◌∙◌, ap}
use Rattle.std.specs.Prelude.{fold, map}
use Rattle.std.specs.List.{insert, prefix_len}
use Rattle.std.proofs.lemmas.List.{map_push}
use Rattle.ob_base.specs.declared.schema.Table.{Table}
use Rattle.ob_seal.specs.KeySet.{KeySet}
use Rattle.ob_vault.specs.State.{RevState}
use Rattle.ob_reopen.specs.declared.listed.Listed.{Listed}
use Rattle.ob_reopen.specs.Writings.{listed_of, is_before, placed, catalogue_of}

fold_more : {A B : Type 0} (f : B → A → B) (b : B) (xs : List A) (x : A) → fold f b (xs ++ x ∷ []) ≡ f (fold f b xs) x
fold_more f b [] x = refl
fold_more f b (y ∷ xs) x = fold_more f (f b y) xs x

pub placed_next : (keys : KeySet) (revs : RevState) (tables : List Table) (t : Table) (old new : List Listed) (x : Listed) (n : ℕ) → old ≡ catalogue_of keys revs tables → x ≡ listed_of keys revs t → n ≡ prefix_len (is_before x) old
    → new ≡ insert old n x → new ≡ catalogue_of keys revs (tables ++ t ∷ [])
placed_next keys revs tables t old new x n were is place put =
    put ∙ ap (λ (k : ℕ). insert old k x) place ∙ (λ i. placed (were i) (is i))
    ∙ sym (ap (fold placed []) (map_push (listed_of keys revs) tables t) ∙ fold_more placed [] (map (listed_of keys revs) tables) (listed_of keys revs t))
