-- An access of an index over two places a bucket.
use Rattle.std.proofs.Common.{◌≡◌, ◌<◌, ℕ, ◌-◌, ◌+◌, ◌*◌, ◌^◌, Bool, false, ◌==◌, inl, inr, List, [], ◌∷◌, ◌++◌, Option, Some, length, refl, sym, ap, ◌∙◌, subst}
use Rattle.std.specs.List.{list_any}
use Rattle.std.proofs.lemmas.Bool.{cases_Bool, eqb-false, or_parts}
use Rattle.std.specs.Prelude.{not}
use Rattle.ob_path.specs.Paths.{path_up, path}
use Rattle.ob_linked.specs.declared.version.Version.{Version}
use Rattle.ob_path.specs.Rows.{slots_of, firsts, by_key}
use Rattle.ob_path.specs.States.{State, bucket}
use Rattle.ob_path.specs.Access.{Op, Went, Evicted, fill, evict, access, leaf_read, leaves_after, fits_by, key_of, applied, take_path}
use Rattle.ob_tree.proofs.PathLemmas.{Apart, apart_path}
use Rattle.ob_tree.proofs.TreeLemmas.{other_bucket}
use Rattle.ob_tree.proofs.EvictLemmas.{four_slots, apart_fill}
use Rattle.ob_tree.proofs.AccessLemmas.{went_is}
use Rattle.ob_linked.specs.Linked.{Cells, Tree, IsStoredIn, IsTreeOf, Saves, is_among, turned, blocks_of, with_blocks}
use Rattle.ob_linked.proofs.LinkedLemmas.{stays, new_lies, writes_spare, rows_on, rows_off}
use Rattle.ob_linked.proofs.DownLemmas.{path_up_goes, among_path}

untouched : {R : Type 0} (fits : ℕ → R → Bool) (bs : List ℕ) (e : Evicted R) → Apart (length e.tree) bs → (c : ℕ) → is_among bs c ≡ false → bucket (evict fits bs e).tree c ≡ bucket e.tree c
untouched fits [] e apart c off = refl
untouched fits (b ∷ bs) e apart c off =
    let both = or_parts (b == c) (list_any (λ x. x == c) bs) off in
    untouched fits bs (fill fits b e) (apart_fill fits b bs e apart) c both.1
    ∙ other_bucket e.tree b (slots_of 4 (firsts 4 (fits b) e.left)) (four_slots fits b e.left) apart.0 c (λ same. eqb-false b c both.0 (sym same))

module _ {R : Type 0} (key : R → ℕ) (h draw : ℕ) (s : State R) (op : Op R) (w : Went R) (size : length s.tree ≡ 4 * (2 ^ (h + 1) - 1)) (less : leaf_read h s (key_of key op) draw < 2 ^ h) (goes : access key h s op draw ≡ Some w)
    (t : Tree (List (Option R))) (cells : Cells (List (Option R))) (is : IsTreeOf (2 ^ (h + 1) - 1) t s.tree) (lies : IsStoredIn (2 ^ (h + 1) - 1) t cells) (run : ℕ) (number : ℕ → ℕ) where
  abbrev leaf : ℕ
  leaf = leaf_read h s (key_of key op) draw

  other : (b : ℕ) → is_among (path h leaf) b ≡ false → bucket w.state.tree b ≡ bucket s.tree b
  other b off =
      ap (λ (x : Went R). bucket x.state.tree b) (sym (went_is key h s op draw w goes))
      ∙ untouched (fits_by key h (leaves_after h s (key_of key op) draw)) (path_up h leaf) (record { tree = s.tree; left = by_key key (applied key (length s.leaves) op (take_path h s leaf)) }) (apart_path h leaf (length s.tree) less size) b (sym (among_path h leaf b) ∙ off)

  abbrev turns : ℕ → Version
  turns b = record { side = not (t.version b).side; run = run; number = number b }

  pub access_saves : Saves h leaf t w.state run number cells
  access_saves = record {
    lies = new_lies t (path h leaf) (bucket w.state.tree) (turns) (2 ^ (h + 1) - 1) cells lies (path_up_goes h leaf less);
    is = record {
      rows = λ b within. elim (cases_Bool (is_among (path h leaf) b)) [
        | inl on ↦ rows_on t (path h leaf) (bucket w.state.tree) turns b on
        | inr off ↦ rows_off t (path h leaf) (bucket w.state.tree) turns b off ∙ is.rows b within ∙ sym (other b off)
      ];
    };
    before = λ done rest parts. subst (λ p. IsStoredIn (2 ^ (h + 1) - 1) t (with_blocks cells (blocks_of (turned t p (bucket w.state.tree) run number) done))) (sym parts)
        (stays t (2 ^ (h + 1) - 1) (done ++ rest) cells _ lies (writes_spare t done rest (bucket w.state.tree) run number cells));
  }
