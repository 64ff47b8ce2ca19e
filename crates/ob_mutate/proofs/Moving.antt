-- A mutation, from one step to the next.
use Rattle.std.proofs.Common.{◌≡◌, ◌++◌, ◌+◌, ◌*◌, ◌≤◌, inl, inr, ℕ, Bool, List, [], Option, None, Result, Ok, Err, length, length-append, append_assoc, ap, count_by, refl, sym, ◌∙◌, subst, arith}
use Rattle.ob_base.specs.declared.access.Access.{Access}
use Rattle.ob_store.specs.Runs.{Did}
use Rattle.ob_store.specs.State.{StoreState}
use Rattle.std.proofs.lemmas.List.{append-nil}
use Rattle.ob_script.specs.Parts.{count_part}
use Rattle.ob_vault.specs.declared.region.Order.TheVariants.{Round}
use Rattle.ob_vault.specs.State.{World}
use Rattle.ob_vault.specs.Tied.{Ready}
use Rattle.ob_vault.specs.Calls.{Lasts, Went, Seals, one, two}
use Rattle.ob_vault.specs.Words.{MayAsk, MayStart}
use Rattle.ob_vault.proofs.Runs.{went_join, went_none, went_wider, lives_apart, lives_went, shape_lasts, tells_went}
use Rattle.ob_vault.proofs.WordLemmas.{asks_start, asks_after, honest_before, honest_after, honest_same}
use Rattle.ob_row.specs.Slots.{Slots}
use Rattle.ob_flat.specs.declared.flat.Flat.{Flat}
use Rattle.ob_flat.specs.declared.fault.OpErr.{OpErr}
use Rattle.ob_flat.specs.declared.fault.OpErr.TheVariants.{NoMemory}
use Rattle.ob_flat.specs.Passes.{PassCut}
use Rattle.ob_flat.specs.Flats.{Represents, table_region}
use Rattle.ob_flat.specs.Words.{IsTable, HasSpare, blocks_of, moved}
use Rattle.ob_flat.specs.Creates.{MakesTable, make_script}
use Rattle.ob_flat.specs.Swaps.{Swaps}
use Rattle.ob_row.specs.Rows.{Row}
use Rattle.ob_blocks.specs.Blocks.{map_at}
use Rattle.ob_flat.proofs.Runs.{not_memory, pass_more}
use Rattle.ob_flat.proofs.Tables.{reads, copies, blocks_few, flat_lasts, rows_lasts, represents_lasts}
use Rattle.ob_flat.proofs.WordLemmas.{cut_forgot, ran_more, seals_any, seals_after, tampered_after}
use Rattle.ob_mutate.proofs.Counted.{match_ok}
use Rattle.ob_mutate.specs.declared.settling.Former.{Former}
use Rattle.ob_mutate.specs.declared.settling.Former.TheVariants.{Discard, Keep}
use Rattle.ob_mutate.specs.Mutating.{FillsFresh, LeavesFormer, Mutates, StaysFormer, StaysStored, copy_script, former_script, insert_script, place_script}

-- what is asked where a row is inserted
pub places : (pack : ℕ) (flat : Flat) (to : ℕ) → length (place_script pack flat to) ≤ 3 * blocks_of pack flat
places pack flat to = omega (arith, length-append (count_part flat.region (blocks_of pack flat)) (copy_script pack flat to), reads flat.region (blocks_of pack flat), copies flat.region to (blocks_of pack flat))

four_parts : (former : Former) (pack : ℕ) (flat : Flat) (to : ℕ) → make_script pack (moved flat to) ++ (place_script pack flat to ++ former_script former flat.region) ≡ insert_script former pack flat to
four_parts former pack flat to =
    ap (λ (l : List Access). make_script pack (moved flat to) ++ l) (append_assoc (count_part flat.region (blocks_of pack flat)) (copy_script pack flat to) (former_script former flat.region))

length-former_script : (former : Former) (region : ℕ) → length (former_script former region) ≤ 1
length-former_script Discard region = omega arith
length-former_script Keep region = omega arith

-- what stays in the store while other regions change
stays_stored : (some : ℕ → Type 0) (region : ℕ) (a b : World) → Lasts some a b → (some region → ⊥) → StaysStored region a.store b.store
stays_stored some region a b lasts off = record {
  live = lasts.apart.kept region off;
  last = λ x. lasts.apart.last region x off;
  kept = lasts.apart.rests region off;
}

stays_on : (former : Former) (region : ℕ) (a b c : StoreState) → StaysStored region a b → StaysFormer former region b c → StaysFormer former region a c
stays_on Discard region a b c first second = tt
stays_on Keep region a b c first second = record {
  live = second.live ∙ first.live;
  last = λ x. second.last x ∙ first.last x;
  kept = second.kept ∙ first.kept;
}

-- a pass over its blocks filled a fresh region
pub fills_swapped : (pack : ℕ) (flat : Flat) (to : ℕ) (picks : Option Row → Bool) (f : ℕ → Option Row → Option Row) (r : Result ℕ OpErr) (old new : World)
    → Swaps pack flat to picks f r old new → FillsFresh pack flat to (copy_script pack flat to) (count_by picks) (map_at f 0) r old new
fills_swapped pack flat to picks f r old new swaps = record { ran = swaps.ran; never = swaps.never; seals = swaps.seals; table = swaps.table; holds = swaps.holds; told = swaps.told }

-- of a table that may be changed
module _ {T : Type 0} (former : Former) (pack : ℕ) (flat : Flat) (fill : List Access) (answer : Slots → T) (after : Slots → Slots) (old : World) (ready : Ready old) (table : IsTable pack flat old) where
  -- the whole script
  abbrev whole : List Access
  whole = make_script pack (moved flat old.vault.next) ++ (fill ++ former_script former flat.region)

  off : flat.region ≡ old.vault.next → ⊥
  off = lives_apart _ _ _ ready table.written.made.lives

  -- the region was not made
  pub mutates_none : (e : OpErr) (new : World) → MakesTable Round pack (moved flat old.vault.next) (Err e) old new → Mutates former pack flat flat whole answer after (Err e) old new
  mutates_none e new makes =
      let next = old.vault.next in
      let lasts = makes.ran.err.lasts in
      record {
        ok = tt;
        err = pass_more (one next) _ _ _ (make_script pack (moved flat next)) (fill ++ former_script former flat.region) makes.ran.err;
        never = elim makes.never [ inl failed ↦ inl failed | inr none ↦ inr (inl none) ];
        memory = record { did = λ is. makes.memory.did (cc is) };
        gone = makes.gone;
        stays = tt;
        seals = seals_any makes.seals.seals;
        moves = tt;
        same = refl;
        lives = tt;
        table = flat_lasts pack flat (one next) _ _ lasts off table.written;
        holds = rows_lasts pack flat (one next) _ _ lasts off;
        told = λ honest slots is. (makes.never, represents_lasts pack flat (one next) _ _ lasts off slots is);
      }

  module _ {g : ℕ} (mid : World) (makes : MakesTable Round pack (moved flat old.vault.next) (Ok g) old mid) where
    -- it was, and filled
    pub mutates_ok : (x : T) (late new : World) → FillsFresh pack flat old.vault.next fill answer after (Ok x) mid late → LeavesFormer former flat.region late new
        → Mutates former pack flat (moved flat old.vault.next) whole answer after (Ok x) old new
    mutates_ok x late new fills leaves =
        let next = old.vault.next in
        let fresh = moved flat next in
        let both = two flat.region next in
        let made = makes.ran.ok in
        let filled = fills.ran.ok in
        let away : next ≡ flat.region → ⊥ = λ same. off (sym same) in
        let shape = table_region Round pack flat.schema flat.capacity in
        record {
          ok = went_join both _ _ _ (make_script pack fresh) (fill ++ former_script former flat.region) (went_wider (one next) _ _ both (λ r s. inr s) _ made)
              (went_join both _ _ _ fill (former_script former flat.region) (went_wider (one next) _ _ both (λ r s. inr s) _ filled) (went_wider (one flat.region) _ _ both (λ r s. inl s) _ leaves.went));
          err = tt;
          never = tt;
          memory = record { did = λ is. absurd (cc is) };
          gone = leaves.gone;
          stays = stays_on former flat.region _ _ _ (stays_stored (one next) flat.region _ _ made.lasts off)
              (stays_on former flat.region _ _ _ (stays_stored (one next) flat.region _ _ filled.lasts off) leaves.stays);
          seals = seals_after made.lasts (seals_any makes.seals.seals) (seals_after filled.lasts fills.seals (seals_any leaves.seals.seals));
          moves = refl;
          same = tt;
          lives = lives_went _ _ _ _ next shape leaves.went away (shape_lasts (one next) _ _ next shape _ made.lasts.ready filled.lasts makes.lives fills.table.made.lives);
          table = flat_lasts pack fresh (one flat.region) _ _ leaves.went.lasts away fills.table;
          holds = λ tells. rows_lasts pack fresh (one flat.region) _ _ leaves.went.lasts away (fills.holds (tells_went _ _ _ _ made tells));
          told = λ honest slots is.
              let there = represents_lasts pack flat (one next) _ _ made.lasts off slots is in
              let done = fills.told (honest_after made (honest_before leaves.went.lasts honest)) slots there in
              (done.0, represents_lasts pack fresh (one flat.region) _ _ leaves.went.lasts away (after slots) done.1);
        }

    -- or was cut, and is forgotten
    pub mutates_err : (e : OpErr) (late new : World) → FillsFresh pack flat old.vault.next fill answer after (Err e) mid late → Went [] (one old.vault.next) late new → new.store ≡ late.store
        → ((good : ℕ → List ℕ → Bool) → Seals good late new) → new.vault.revs.live old.vault.next ≡ None → Mutates former pack flat flat whole answer after (Err e) old new
    mutates_err e late new fills forgot same sealed gone =
        let next = old.vault.next in
        let fresh = moved flat next in
        let ended = cut_forgot Round pack fresh _ _ (make_script pack fresh) makes.ran.ok makes.seals.seals e (fill ++ former_script former flat.region) late new (ran_more {T = T} fill (former_script former flat.region) fills.ran.err) forgot same in
        let lasts = ended.lasts in
        record {
          ok = tt;
          err = ended;
          never = elim fills.never [ inl failed ↦ inl failed | inr there ↦ inr (inr (tampered_after forgot same there)) ];
          memory = record { did = λ is. elim fills.never [ inl failed ↦ not_memory failed is | inr there ↦ absurd (cc (is, there.is)) ] };
          gone = gone;
          stays = tt;
          seals = seals_after makes.ran.ok.lasts (seals_any makes.seals.seals) (seals_after fills.ran.err.lasts fills.seals (seals_any sealed));
          moves = tt;
          same = refl;
          lives = tt;
          table = flat_lasts pack flat (one next) _ _ lasts off table.written;
          holds = rows_lasts pack flat (one next) _ _ lasts off;
          told = λ honest slots is.
              let there = represents_lasts pack flat (one next) _ _ makes.ran.ok.lasts off slots is in
              (inl (fills.told (honest_after makes.ran.ok (honest_same same honest)) slots there), represents_lasts pack flat (one next) _ _ lasts off slots is);
        }

    -- or there was no memory to fill it, and it is forgotten
    pub mutates_full : (new : World) → Went [] (one old.vault.next) mid new → new.store ≡ mid.store → ((good : ℕ → List ℕ → Bool) → Seals good mid new)
        → new.vault.revs.live old.vault.next ≡ None → Mutates former pack flat flat whole answer after (Err NoMemory) old new
    mutates_full new forgot same sealed gone =
        let next = old.vault.next in
        let fresh = moved flat next in
        let made = makes.ran.ok in
        let rest = fill ++ former_script former flat.region in
        let cut : PassCut NoMemory rest (one next) mid mid = record {
          lasts = (went_none (one next) mid made.lasts.ready).lasts;
          began = record { done = []; rest = rest; split = refl; asked = sym (append-nil mid.store.asked) };
          asks = λ is. absurd (cc is);
          cause = (refl, λ was. was);
        } in
        let ended = cut_forgot Round pack fresh _ _ (make_script pack fresh) made makes.seals.seals {T = T} NoMemory rest mid new (record { ok = tt; err = cut }) forgot same in
        let lasts = ended.lasts in
        record {
          ok = tt;
          err = ended;
          never = inr (inl refl);
          memory = record { did = λ is. subst (λ (s : StoreState). Did (make_script pack fresh) old.store s) (sym same) made.did };
          gone = gone;
          stays = tt;
          seals = seals_after made.lasts (seals_any makes.seals.seals) (seals_any sealed);
          moves = tt;
          same = refl;
          lives = tt;
          table = flat_lasts pack flat (one next) _ _ lasts off table.written;
          holds = rows_lasts pack flat (one next) _ _ lasts off;
          told = λ honest slots is. (inr refl, represents_lasts pack flat (one next) _ _ lasts off slots is);
        }

    -- what may be asked to fill it
    pub fill_asks : (n : ℕ) → MayStart (n + 2) old → n ≤ 3 * blocks_of pack flat → MayAsk n mid
    fill_asks n starts most =
        let few = blocks_few pack flat.capacity table.some in
        asks_after (asks_start starts (omega (arith, few, table.size.most, most))) makes.ran.ok (omega arith)

    -- and then to discard the old one
    pub drop_spare : (n : ℕ) (late : World) → MayStart (n + 2) old → length fill ≤ n → Went fill (one old.vault.next) mid late → HasSpare 1 late
    drop_spare n late starts most filled = record { ready = filled.lasts.ready; spare = omega (arith, starts.spare, makes.ran.ok.spare, filled.spare, most) }

    -- the table stands
    pub table_stands : IsTable pack flat mid
    table_stands = record { some = table.some; most = table.most; size = table.size; written = flat_lasts pack flat (one old.vault.next) _ _ makes.ran.ok.lasts off table.written }

-- the same, where the answer and the slots are written in other words
pub rewrites_as : {T : Type 0} {former : Former} {pack : ℕ} {flat left : Flat} {script : List Access} {answer other : Slots → T} {after later : Slots → Slots} {r : Result T OpErr} {old new : World}
    → ((slots : Slots) → answer slots ≡ other slots) → ((slots : Slots) → after slots ≡ later slots)
    → Mutates former pack flat left script answer after r old new → Mutates former pack flat left script other later r old new
rewrites_as {T} {former} {pack} {flat} {left} {script} {answer} {other} {after} {later} {r} {old} {new} words slots_are is = record {
  ok = is.ok;
  err = is.err;
  never = is.never;
  memory = is.memory;
  gone = is.gone;
  stays = is.stays;
  seals = is.seals;
  moves = is.moves;
  same = is.same;
  lives = is.lives;
  table = is.table;
  holds = is.holds;
  told = λ honest slots here. match_ok _ r (λ x both. (both.0 ∙ words slots, subst (λ (l : Slots). Represents pack left l new) (slots_are slots) both.1)) (is.told honest slots here);
}

pub as_insert : {T : Type 0} {former : Former} {pack : ℕ} {flat left : Flat} (to : ℕ) {answer : Slots → T} {after : Slots → Slots} {r : Result T OpErr} {old new : World}
    → Mutates former pack flat left (make_script pack (moved flat to) ++ (place_script pack flat to ++ former_script former flat.region)) answer after r old new → Mutates former pack flat left (insert_script former pack flat to) answer after r old new
as_insert {T} {former} {pack} {flat} {left} to {answer} {after} {r} {old} {new} is = subst (λ (l : List Access). Mutates former pack flat left l answer after r old new) (four_parts former pack flat to) is
