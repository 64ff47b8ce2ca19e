-- A result by each of the plans.
use Rattle.std.proofs.Common.{◌≡◌, ◌⊎◌, inl, inr, ◌≤◌, ◌*◌, ◌+◌, ℕ, IsTrue, List, [], ◌∷◌, Option, None, Some, Result, Ok, Err, length, refl, ap, subst, arith}
use Rattle.ob_base.specs.declared.access.Access.{Access}
use Rattle.ob_base.specs.declared.config.Plan.{Plan}
use Rattle.ob_base.specs.Plans.{MayPad}
use Rattle.ob_base.specs.declared.config.Plan.TheVariants.{Small, Large, Continuous, Hash}
use Rattle.ob_base.specs.declared.config.Planner.TheVariants.{Forced}
use Rattle.ob_base.specs.Accesses.{make_at}
use Rattle.ob_base.specs.Limits.{buffered_blocks}
use Rattle.ob_base.specs.Numbers.{blocks_for}
use Rattle.ob_base.specs.Schemas.{width}
use Rattle.ob_room.specs.RoomState.{RoomState}
use Rattle.ob_row.specs.Truth.{is_true}
use Rattle.ob_store.specs.Runs.{Did}
use Rattle.ob_vault.specs.State.{World}
use Rattle.ob_vault.specs.Calls.{Went, one}
use Rattle.ob_flat.specs.declared.fault.OpErr.{OpErr}
use Rattle.ob_flat.specs.declared.fault.OpErr.TheVariants.{Failed, Sink, NoMemory}
use Rattle.ob_flat.specs.declared.flat.Flat.{Flat}
use Rattle.ob_flat.specs.Flats.{IsWritten, Represents}
use Rattle.ob_flat.specs.Passes.{PassCut}
use Rattle.ob_flat.specs.Words.{SealsTable}
use Rattle.ob_flat.proofs.Tables.{written_flat}
use Rattle.std.specs.Prelude.{IfOk}
use Rattle.ob_small.specs.Selection as S
use Rattle.ob_large.specs.Selecting as L
use Rattle.ob_cont.specs.Selecting as C
use Rattle.ob_hash.specs.Selecting as H
use Rattle.ob_hash.specs.Hashing.{layout_at}
use Rattle.ob_hash.specs.declared.selecting.Placed.{Placed}
use Rattle.ob_hash.specs.declared.selecting.Placed.TheVariants.{Done}
use Rattle.ob_hash.proofs.Sizes.{blocks_whole}
use Rattle.ob_select.specs.Settings.{IsFree, AreSettings}
use Rattle.ob_select.specs.Memory.{is_make}
use Rattle.ob_select.specs.Selecting.{Selection}
use Rattle.ob_select.specs.Results.{Planned, planned, MakesPadded, fresh_flat, make_part, left_out, held_slots, stored_slots, PlannedToEnd, LacksMemoryOf, MakesResult, placed_as}
use Rattle.ob_select.proofs.ResultParts.{buffered_some}
use Rattle.ob_hash.specs.Hashing as HL
use Rattle.ob_script.proofs.Numbers.{length-small_part, length-large_part, length-continuous_part, length-hash_part}
use Rattle.ob_flat.specs.Words.{blocks_of}

-- want of memory at a make
lacks_make : (m : Access) (more : List Access) (old new : World) → IsTrue (is_make m) → Did (m ∷ []) old.store new.store → LacksMemoryOf (m ∷ more) old new ⊥ ⊥
lacks_make m more old new make did = record { done = m ∷ []; rest = more; split = refl; asked = did.asked; place = inl make }

-- a plan that may be taken for a padded result, and isn't Large
pub small_alone : (plan : Plan) → MayPad (Forced plan) → (plan ≡ Small) ⊎ (plan ≡ Continuous) ⊎ (plan ≡ Hash) → plan ≡ Small
small_alone Small may is = refl
small_alone Large may is = elim is [ inl a ↦ absurd (cc a) | inr b ↦ elim b [ inl c ↦ absurd (cc c) | inr d ↦ absurd (cc d) ] ]
small_alone Continuous may is = absurd may
small_alone Hash may is = absurd may

module _ (r : Planned) (old new : World) where
  made_done : (fresh : Flat) → Went (make_part r old.vault.next) (one old.vault.next) old new → fresh ≡ fresh_flat r old.vault.next
      → IsWritten r.selection.public.pack fresh new → SealsTable r.selection.public.pack r.selection.flat.schema old.vault.next old new
      → ((s : PlannedToEnd r old new) → (None ≡ left_out r s.slots) × Represents r.selection.public.pack fresh (stored_slots r s.slots) new)
      → MakesResult r (Ok (Done fresh)) old new
  made_done fresh went value written seals told = record {
    ran = record { ok = went; err = tt };
    some = tt;
    never = λ is. cc;
    memory = λ is. absurd (cc is);
    value = value;
    left = λ some. absurd (cc some);
    written = subst (λ (f : Flat). IsWritten r.selection.public.pack f new) value written;
    gone = tt;
    seals = seals;
    told = λ s. let is = told s in (is.0, subst (λ (f : Flat). Represents r.selection.public.pack f (stored_slots r s.slots) new) value is.1);
  }

  made_err : (e : OpErr) → PassCut e (make_part r old.vault.next) (one old.vault.next) old new → (e ≡ Sink → ⊥) → (e ≡ NoMemory → LacksMemoryOf (make_part r old.vault.next) old new ⊥ ⊥)
      → new.vault.revs.live old.vault.next ≡ None → SealsTable r.selection.public.pack r.selection.flat.schema old.vault.next old new
      → ((s : PlannedToEnd r old new) → (e ≡ Failed) ⊎ (e ≡ NoMemory))
      → MakesResult r (Err e) old new
  made_err e cut never memory gone seals told = record {
    ran = record { ok = tt; err = cut };
    some = cut.asks;
    never = λ is. never (cc is);
    memory = λ is. memory (cc is);
    value = tt;
    left = tt;
    written = tt;
    gone = gone;
    seals = seals;
    told = told;
  }

module _ (q : Selection) (k : ℕ) (room : RoomState) (free : IsFree q.public room) (old new : World) where
  -- so many rows were put into a Small result
  module _ (n : ℕ) (pad : Option ℕ) where
    abbrev of_small : Planned
    of_small = record { selection = q; plan = Small; k = n; taken = k; pad = pad }

    small_by : (result : Result Flat OpErr) → S.Selects (S.select_of q.public.pack (buffered_blocks q.public.pack q.public.buffer) q.flat q.condition k) result old new
        → IfOk result (λ fresh. (s : PlannedToEnd of_small old new) → Represents q.public.pack fresh (stored_slots of_small s.slots) new) → MakesResult of_small (placed_as result) old new
    small_by (Ok fresh) is told = made_done of_small old new fresh is.ran.ok is.makes.value (written_flat _ _ _ is.makes.flat) is.makes.seals (λ s. (refl, told s))
    small_by (Err e) is told = made_err of_small old new e is.ran.err
        (λ sink. elim is.never [ inl f ↦ cc (f, sink) | inr more ↦ elim more [ inl n ↦ cc (n, sink) | inr t ↦ cc (t.is, sink) ] ])
        (λ none. lacks_make _ _ old new refl (is.memory.did (ap Err none)))
        is.makes.gone is.makes.seals (λ s. is.told s.honest s.slots s.is)

  small_of : (result : Result Flat OpErr) → S.Selects (S.select_of q.public.pack (buffered_blocks q.public.pack q.public.buffer) q.flat q.condition k) result old new
      → MakesResult (planned q Small k) (placed_as result) old new
  small_of (Ok fresh) is = small_by k None (Ok fresh) is (λ s. is.exact s.honest s.slots s.suits.count s.is)
  small_of (Err e) is = small_by k None (Err e) is tt

  small_padded : (result : Result Flat OpErr) → S.Selects (S.select_of q.public.pack (buffered_blocks q.public.pack q.public.buffer) q.flat q.condition k) result old new
      → MakesPadded q Small k result old new
  small_padded (Ok fresh) is pad n = small_by n (Some pad) (Ok fresh) is (λ s. is.told s.honest s.slots s.is)
  small_padded (Err e) is pad n = small_by n (Some pad) (Err e) is tt

  small_in : (result : Result Flat OpErr) → S.Selects (S.select_in room q.flat q.condition k) result old new
      → S.Selects (S.select_of q.public.pack (buffered_blocks q.public.pack q.public.buffer) q.flat q.condition k) result old new
  small_in result is =
      subst (λ (n : ℕ). S.Selects (S.select_of q.public.pack (buffered_blocks q.public.pack n) q.flat q.condition k) result old new) free.rows
      (subst (λ (p : ℕ). S.Selects (S.select_of p (buffered_blocks p room.rows) q.flat q.condition k) result old new) free.pack is)

  pub made_small : (result : Result Flat OpErr) → S.Selects (S.select_in room q.flat q.condition k) result old new → MakesResult (planned q Small k) (placed_as result) old new
  made_small result is = small_of result (small_in result is)

  pub padded_small : (result : Result Flat OpErr) → S.Selects (S.select_in room q.flat q.condition k) result old new → MakesPadded q Small k result old new
  padded_small result is = small_padded result (small_in result is)

  -- and into a Large one
  module _ (n : ℕ) (pad : Option ℕ) where
    abbrev of_large : Planned
    of_large = record { selection = q; plan = Large; k = n; taken = k; pad = pad }

    large_by : (result : Result Flat OpErr) → L.Selects q.public.pack q.flat (is_true q.condition) result old new
        → IfOk result (λ fresh. (s : PlannedToEnd of_large old new) → Represents q.public.pack fresh (stored_slots of_large s.slots) new) → MakesResult of_large (placed_as result) old new
    large_by (Ok fresh) is told = made_done of_large old new fresh is.ran.ok is.makes.value (written_flat _ _ _ is.makes.flat) is.makes.seals (λ s. (refl, told s))
    large_by (Err e) is told = made_err of_large old new e is.ran.err
        (λ sink. elim is.never [ inl f ↦ cc (f, sink) | inr more ↦ elim more [ inl n ↦ cc (n, sink) | inr t ↦ elim t [ inl t ↦ cc (t.is, sink) | inr t ↦ cc (t.is, sink) ] ] ])
        (λ none. lacks_make _ _ old new refl (is.memory.did (ap Err none)))
        is.makes.gone is.makes.seals (λ s. is.told s.honest s.slots s.is)

  large_of : (result : Result Flat OpErr) → L.Selects q.public.pack q.flat (is_true q.condition) result old new → MakesResult (planned q Large k) (placed_as result) old new
  large_of (Ok fresh) is = large_by k None (Ok fresh) is (λ s. is.told s.honest s.slots s.is)
  large_of (Err e) is = large_by k None (Err e) is tt

  large_padded : (result : Result Flat OpErr) → L.Selects q.public.pack q.flat (is_true q.condition) result old new → MakesPadded q Large k result old new
  large_padded (Ok fresh) is pad n = large_by n (Some pad) (Ok fresh) is (λ s. is.told s.honest s.slots s.is)
  large_padded (Err e) is pad n = large_by n (Some pad) (Err e) is tt

  pub made_large : (result : Result Flat OpErr) → L.Selects room.pack q.flat (is_true q.condition) result old new → MakesResult (planned q Large k) (placed_as result) old new
  made_large result is = large_of result (subst (λ (p : ℕ). L.Selects p q.flat (is_true q.condition) result old new) free.pack is)

  pub padded_large : (result : Result Flat OpErr) → L.Selects room.pack q.flat (is_true q.condition) result old new → MakesPadded q Large k result old new
  padded_large result is = large_padded result (subst (λ (p : ℕ). L.Selects p q.flat (is_true q.condition) result old new) free.pack is)

  cont_of : (result : Result Flat OpErr) → C.Selects q.public.pack q.flat (is_true q.condition) k result old new → MakesResult (planned q Continuous k) (placed_as result) old new
  cont_of (Ok fresh) is = made_done (planned q Continuous k) old new fresh is.ran.ok is.value is.written is.seals
      (λ s. (refl, is.exact s.honest s.slots s.suits.count (s.suits.consecutive refl) s.is))
  cont_of (Err e) is = made_err (planned q Continuous k) old new e is.ran.err
      (λ sink. elim is.never [ inl f ↦ cc (f, sink) | inr more ↦ elim more [ inl n ↦ cc (n, sink) | inr t ↦ elim t [ inl t ↦ cc (t.is, sink) | inr t ↦ cc (t.is, sink) ] ] ])
      (λ none. lacks_make _ _ old new refl (is.memory.did (ap Err none)))
      is.gone is.seals (λ s. is.told s.honest s.slots s.is)

  pub made_cont : (result : Result Flat OpErr) → C.Selects room.pack q.flat (is_true q.condition) k result old new → MakesResult (planned q Continuous k) (placed_as result) old new
  made_cont result is = cont_of result (subst (λ (p : ℕ). C.Selects p q.flat (is_true q.condition) k result old new) free.pack is)

  module _ (some : 1 ≤ q.public.pack) where
    hash_did : Did (make_at old.vault.next (blocks_for q.public.pack ((k * q.public.depth) * q.public.pack)) (q.public.pack * width q.flat.schema)) old.store new.store
        → LacksMemoryOf (make_part (planned q Hash k) old.vault.next) old new ⊥ ⊥
    hash_did did = lacks_make _ _ old new refl (subst (λ (n : ℕ). Did (make_at old.vault.next n (q.public.pack * width q.flat.schema)) old.store new.store) (blocks_whole q.public.pack (k * q.public.depth) some) did)

    hash_of : (result : Result Placed OpErr) → H.Selects (layout_at q.public.pack q.flat k q.public.depth old.vault.next) q.flat (is_true q.condition) result old new → MakesResult (planned q Hash k) result old new
    hash_of (Ok placed) is = record {
      ran = record { ok = is.ran.ok; err = tt };
      some = tt;
      never = λ is. cc;
      memory = λ is. absurd (cc is);
      value = is.makes.value;
      left = λ some. refl;
      written = subst (λ (f : Flat). IsWritten q.public.pack f new) is.makes.value (written_flat _ _ _ is.makes.flat);
      gone = tt;
      seals = is.makes.seals;
      told = λ s. let told = is.told s.honest s.slots s.is in (told.0, subst (λ (f : Flat). Represents q.public.pack f (held_slots (planned q Hash k) s.slots) new) is.makes.value told.1);
    }
    hash_of (Err e) is = made_err (planned q Hash k) old new e is.ran.err
        (λ sink. elim is.never [ inl f ↦ cc (f, sink) | inr more ↦ elim more [ inl n ↦ cc (n, sink) | inr t ↦ elim t [ inl t ↦ cc (t.is, sink) | inr t ↦ cc (t.is, sink) ] ] ])
        (λ none. hash_did (is.memory.did (ap Err none)))
        is.makes.gone is.makes.seals (λ s. is.told s.honest s.slots s.is)

    pub made_hash : (result : Result Placed OpErr) → H.Selects (layout_at room.pack q.flat k q.public.depth old.vault.next) q.flat (is_true q.condition) result old new → MakesResult (planned q Hash k) result old new
    made_hash result is = hash_of result (subst (λ (p : ℕ). H.Selects (layout_at p q.flat k q.public.depth old.vault.next) q.flat (is_true q.condition) result old new) free.pack is)

-- the accesses that each operator asks for
module _ (q : Selection) (k g : ℕ) (room : RoomState) (free : IsFree q.public room) (settings : AreSettings q.public) (n : ℕ) where
  pub starts_small : length (make_part (planned q Small k) g) ≤ n → 1 + S.fill_length (S.select_in room q.flat q.condition k) ≤ n
  starts_small enough =
      let s = S.select_of q.public.pack (buffered_blocks q.public.pack q.public.buffer) q.flat q.condition k in
      rw (free.pack, free.rows) (omega (arith, enough, length-small_part q.flat.region g (S.blocks s) (S.results s) s.buffered (q.public.pack * width q.flat.schema) (buffered_some q.public settings)))

  pub starts_large : length (make_part (planned q Large k) g) ≤ n → 1 + 4 * blocks_of room.pack q.flat ≤ n
  starts_large enough = rw free.pack (omega (arith, enough, length-large_part q.flat.region g (blocks_of q.public.pack q.flat) (q.public.pack * width q.flat.schema)))

  pub starts_cont : length (make_part (planned q Continuous k) g) ≤ n → C.select_length room.pack q.flat k ≤ n
  starts_cont enough = rw free.pack (omega (arith, enough, length-continuous_part q.flat.region g q.public.pack q.flat.capacity k (q.public.pack * width q.flat.schema) settings.pack_least))

  pub starts_hash : length (make_part (planned q Hash k) g) ≤ n → HL.select_length (layout_at room.pack q.flat k q.public.depth g) q.flat ≤ n
  starts_hash enough = rw free.pack (omega (arith, enough, length-hash_part q.flat.region g q.public.pack q.flat.capacity k q.public.depth (q.public.pack * width q.flat.schema) settings.pack_least))
