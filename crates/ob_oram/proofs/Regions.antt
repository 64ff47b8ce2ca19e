-- The regions of an index, where both were made, or one of them wasn't.
use Rattle.std.proofs.Common.{◌≡◌, ◌≤◌, ◌+◌, ◌*◌, ◌++◌, inl, inr, ℕ, List, [], Option, Some, None, Ok, Err, length, append_assoc, refl, sym, ◌∙◌, ap, subst, arith}
use Rattle.ob_base.specs.declared.access.Access.{Access}
use Rattle.ob_base.specs.Accesses.{makes, write_at}
use Rattle.ob_base.proofs.AccessLemmas.{makes-append}
use Rattle.ob_base.specs.Numbers.{blocks_for}
use Rattle.ob_base.specs.Schemas.{width}
use Rattle.ob_script.proofs.Makes.{makes-create_part}
use Rattle.ob_store.proofs.Steps.{length-each}
use Rattle.ob_vault.specs.declared.region.Region.{Region}
use Rattle.ob_vault.specs.declared.region.Order.TheVariants.{Round, Any}
use Rattle.ob_vault.specs.State.{Start, World}
use Rattle.ob_vault.specs.Tied.{IsOwn, Ready, OnTurn}
use Rattle.ob_vault.specs.Calls.{Went, one, two}
use Rattle.ob_vault.specs.VaultCalls.{Forgets}
use Rattle.ob_vault.proofs.Runs.{went_join, went_wider, lives_went, own_lasts, own_made, written_went, turn_any, tells_went, seals_join, seals_none}
use Rattle.ob_vault.proofs.WorldSteps.{lasts_none}
use Rattle.std.proofs.lemmas.List.{append-nil}
use Rattle.ob_row.specs.Slots.{empty_slots}
use Rattle.ob_flat.specs.declared.flat.Flat.{Flat}
use Rattle.ob_flat.specs.declared.fault.OpErr.{OpErr}
use Rattle.ob_flat.specs.declared.fault.OpErr.TheVariants.{NoMemory}
use Rattle.ob_flat.specs.Flats.{table_region}
use Rattle.ob_flat.specs.Creates.{CreatesRegion, make_script, create_script}
use Rattle.ob_flat.proofs.Runs.{pass_more, pass_after, pass_wider, pass_then}
use Rattle.ob_flat.proofs.Tables.{represents_lasts}
use Rattle.ob_oram.specs.Creating.{CreatesRegions, MadeRegions, create_index_script}
use Rattle.ob_oram.proofs.Creates.{one_each}

-- the accesses that make a region, and the next one's number then
pub length-create : (flat : Flat) → length (create_script 1 flat) ≡ 1 + flat.capacity
length-create flat =
    let n = blocks_for 1 flat.capacity in
    omega (arith, length-each (write_at flat.region) 1 (λ i. refl) n, one_each flat.capacity)

pub next_after : {some : ℕ → Type 0} (flat : Flat) (a b : World) → Ready a → Went (create_script 1 flat) some a b → b.vault.next ≡ a.vault.next + 1
next_after flat a b ready went =
    omega (
      arith,
      ready.tied.next,
      went.lasts.ready.tied.next,
      ap (λ (s : Start). s.region) went.lasts.start,
      makes-append a.store.asked (create_script 1 flat),
      ap makes went.did.asked,
      makes-create_part flat.region (blocks_for 1 flat.capacity) (1 * width flat.schema),
    )

module _ (tree stash : Flat) (old : World) (ready : Ready old) (here : tree.region ≡ old.vault.next) (behind : stash.region ≡ old.vault.next + 1) where
  apart : stash.region ≡ tree.region → ⊥
  apart same = absurd (omega (arith, same, here, behind))

  not_yet : (q : ℕ) → old.vault.next ≤ q → old.vault.revs.live q ≡ None
  not_yet q above = go (old.vault.revs.live q) refl
    where
      go : (o : Option Region) → old.vault.revs.live q ≡ o → old.vault.revs.live q ≡ None
      go None is = is
      go (Some shape) is = absurd (omega (arith, ready.below q shape is, above))

  none_yet : old.vault.revs.live stash.region ≡ None
  none_yet = not_yet stash.region (omega (arith, behind))

  -- the tree's wasn't
  pub regions_first : {T : Type 0} (e : OpErr) (new : World) → CreatesRegion Any 1 tree (Err e) old new → CreatesRegions {T = T} tree stash (Err e) old new
  regions_first e new is = record {
    ran = record {
      ok = tt;
      err = pass_more (two tree.region stash.region) old new e (create_script 1 tree) (create_script 1 stash)
          (pass_wider (one tree.region) old new (two tree.region stash.region) (λ q s. inl s) e (create_script 1 tree) is.ran.err);
    };
    never = is.never;
    memory = λ no. inl (record { done = make_script 1 tree; rest = []; split = append-nil (make_script 1 tree); asked = (is.memory.did (cc no)).asked });
    gone = is.gone;
    gone_stash = is.ran.err.lasts.apart.live stash.region apart ∙ none_yet;
    seals = λ good fine other. is.seals.seals good fine;
  }

  -- memory was wanted before
  pub regions_never : {T : Type 0} → CreatesRegions {T = T} tree stash (Err NoMemory) old old
  regions_never = record {
    ran = record {
      ok = tt;
      err = record {
        lasts = lasts_none (two tree.region stash.region) old ready;
        began = record { done = []; rest = create_index_script tree stash; split = refl; asked = sym (append-nil old.store.asked) };
        asks = λ is. absurd (cc is);
        cause = (refl, λ calm. calm);
      };
    };
    never = inr refl;
    memory = λ no. inl (record { done = []; rest = make_script 1 tree; split = refl; asked = sym (append-nil old.store.asked) });
    gone = not_yet tree.region (omega (arith, here));
    gone_stash = none_yet;
    seals = λ good fine other. seals_none good old;
  }

  module _ (mid : World) (r : ℕ) (first : CreatesRegion Any 1 tree (Ok r) old mid) where
    wide : Went (create_script 1 tree) (two tree.region stash.region) old mid
    wide = went_wider (one tree.region) old mid (two tree.region stash.region) (λ q s. inl s) (create_script 1 tree) first.ran.ok

    stash_own : IsOwn stash.region mid
    stash_own = own_lasts (one tree.region) old mid first.ran.ok.lasts stash.region (record { above = omega (arith, behind, ready.tied.next) })

    -- the stash's wasn't
    pub regions_second : {T : Type 0} (e : OpErr) (late new : World) → CreatesRegion Round 1 stash (Err e) mid late → Forgets tree.region late new → new.store ≡ late.store
        → CreatesRegions {T = T} tree stash (Err e) old new
    regions_second e late new second forgets same =
        let forgot = forgets.went second.ran.err.lasts.ready in
        record {
          ran = record {
            ok = tt;
            err = pass_then (two tree.region stash.region) e (create_index_script tree stash) old late new
                (pass_after (two tree.region stash.region) old mid late e (create_script 1 tree) (create_script 1 stash) wide
                (pass_wider (one stash.region) mid late (two tree.region stash.region) (λ q s. inr s) e (create_script 1 stash) second.ran.err))
                (went_wider (one tree.region) late new (two tree.region stash.region) (λ q s. inl s) [] forgot) same;
          };
          never = second.never;
          memory = λ no.
              let made = make_script 1 stash in
              inr (record {
                done = made;
                rest = [];
                split = append-nil made;
                asked = ap (λ s. s.asked) same ∙ (second.memory.did (cc no)).asked ∙ ap (λ (l : List Access). l ++ made) first.ran.ok.did.asked ∙ append_assoc old.store.asked (create_script 1 tree) made;
              });
          gone = forgets.gone;
          gone_stash = forgot.lasts.apart.live stash.region apart ∙ second.gone;
          seals = λ good fine other.
              seals_join good old mid new first.ran.ok.lasts.later (first.seals.seals good fine)
              (seals_join good mid late new second.ran.err.lasts.later (second.seals.seals good other) (forgets.seals good));
        }

    -- both were
    pub regions_both : (q : ℕ) (new : World) → CreatesRegion Round 1 stash (Ok q) mid new
        → CreatesRegions {T = ℕ × ℕ} tree stash (Ok (r, q)) old new × MadeRegions tree stash (r, q) old new
    regions_both q new second =
        let went = second.ran.ok in
        let off : tree.region ≡ stash.region → ⊥ = λ same. apart (sym same) in
        let round : table_region second.table.made.order 1 stash.schema stash.capacity ≡ table_region Round 1 stash.schema stash.capacity = cc (second.table.made.lives.live, second.lives.live) in (
          record {
            ran = record {
              ok = went_join (two tree.region stash.region) old mid new (create_script 1 tree) (create_script 1 stash) wide
                  (went_wider (one stash.region) mid new (two tree.region stash.region) (λ x s. inr s) (create_script 1 stash) went);
              err = tt;
            };
            never = tt;
            memory = λ no. absurd (cc no);
            gone = tt;
            gone_stash = tt;
            seals = λ good fine other. seals_join good old mid new first.ran.ok.lasts.later (first.seals.seals good fine) (second.seals.seals good other);
          },
          record {
            tree_region = first.number;
            stash_region = second.number;
            tree_written = record {
              own = own_lasts (one stash.region) mid new went.lasts tree.region (own_made (one tree.region) old mid first.ran.ok.lasts tree.region ready here);
              lives = lives_went (one stash.region) mid new (create_script 1 stash) tree.region (table_region Any 1 tree.schema tree.capacity) went off first.lives;
              turn = turn_any tree.region (table_region Any 1 tree.schema tree.capacity) 0 new refl;
              written = λ p below. written_went (one stash.region) mid new (create_script 1 stash) tree.region p went off (first.table.written p below);
            };
            stash_written = record {
              own = own_lasts (one stash.region) mid new went.lasts stash.region stash_own;
              lives = second.lives;
              turn = subst (λ (s : Region). OnTurn stash.region s 0 new) round second.table.made.turn;
              written = second.table.written;
            };
            told = λ tells. (
              represents_lasts 1 tree (one stash.region) mid new went.lasts off (empty_slots tree.capacity) (first.told tells),
              second.told (tells_went (one tree.region) (create_script 1 tree) old mid first.ran.ok tells),
            );
          },
        )
