-- What an access says of an index whose buffer was taken out meanwhile.
use Rattle.std.proofs.Common.{◌≡◌, ◌⊎◌, ◌≤◌, ◌<◌, inl, inr, ℕ, zero, suc, List, [], Option, None, Result, Ok, Err, Global, length, replicate, get_or, set, refl, sym, ◌∙◌, ap, subst, arith}
use Rattle.std.specs.declared.vec.Vec.{Vec}
use Rattle.std.specs.Vec.{with_items}
use Rattle.std.proofs.lemmas.Bool.{cases_lt}
use Rattle.std.proofs.lemmas.List.{length-replicate, get_or-replicate, get_or_past}
use Rattle.std.specs.Option.{option_map}
use Rattle.ob_base.specs.Schemas.{width}
use Rattle.ob_room.specs.RoomState.{clear}
use Rattle.ob_vault.specs.State.{World}
use Rattle.ob_vault.specs.Rows.{row_at}
use Rattle.ob_row.specs.Rows.{Row}
use Rattle.ob_row.specs.Slots.{Slots, empty_slots}
use Rattle.ob_row.specs.Spelling.{Begins}
use Rattle.ob_row.proofs.SpellingLemmas.{zeros-begin}
use Rattle.ob_path.specs.States.{State}
use Rattle.ob_oram.specs.declared.fault.OramErr.{OramErr}
use Rattle.ob_oram.specs.declared.fault.OramErr.TheVariants.{Failed, Tampered, StashFull}
use Rattle.ob_oram.specs.declared.held.Held.{Held}
use Rattle.ob_oram.specs.declared.held.Remap.{Remap}
use Rattle.ob_oram.specs.declared.index.Index.{Index}
use Rattle.ob_oram.specs.declared.op.Op.{Op}
use Rattle.ob_oram.specs.declared.op.Got.{Got}
use Rattle.ob_oram.specs.Buffers.{IsBuffer, held_of}
use Rattle.ob_oram.specs.declared.walk.Walk.{Walk}
use Rattle.ob_oram.specs.declared.walk.Walk.TheVariants.{Stash, Path}
use Rattle.ob_oram.specs.Walks.{slot_in}
use Rattle.ob_oram.specs.Walking.{OpensBlock, OpensFirst}
use Rattle.ob_oram.specs.Halves.{leaf_blocks, stash_blocks}
use Rattle.ob_base.specs.Indexes.{path_blocks}
use Rattle.ob_oram.specs.Indexes.{LiesAs, IsStored, IsShaped, leaves_of, key_of}
use Rattle.ob_oram.specs.Opens.{IsOpen, leaf_with, leaves_with}
use Rattle.ob_oram.specs.Accessing.{Accesses, Answers, HasLeaves, LeftBy, ReadsTooMany, IndexStays, Stops, leaf_read, leaves_after, remap_of}

module _ (index : Index) (buffer : Vec (Option Held) Global) where
  abbrev other : Index
  other = record index { buffer = buffer }

  pub shaped_other : IsShaped index → IsShaped other
  shaped_other is = record { size = is.size; key = is.key; height = is.height; some = is.some; few = is.few; leaves = is.leaves }

  pub stored_other : (w : World) → IsStored index w → IsStored other w
  stored_other w is = record { shaped = shaped_other is.shaped; tree = is.tree; stash = is.stash; apart = is.apart }

  lies_other : (s : State Row) (w : World) → LiesAs index s w → LiesAs other s w
  lies_other s w is = record { tree = is.tree; stash = is.stash; leaves = is.leaves }

  has_other : (list : List ℕ) (left : Index) → HasLeaves list other left → HasLeaves list index left
  has_other list left has = record { same = has.same; leaves = has.leaves }

  stays_other : (left : Index) (old new : World) → IndexStays other left old new → IndexStays index left old new
  stays_other left old new is = record { same = has_other (leaves_of index) left is.same; stored = is.stored; lies = λ s lies. is.lies s (lies_other s old lies) }

  stops_other : (e : OramErr) (left : Index) (leaf : ℕ) (old new : World) → Stops e other left leaf old new → Stops e index left leaf old new
  stops_other Failed left leaf old new is = elim is [
    | inl reading ↦ inl (record { cut = reading.cut; stays = stays_other left old new reading.stays })
    | inr writing ↦ inr (record { cut = writing.cut; past = writing.past; same = has_other (leaves_of index) left writing.same; tree = writing.tree; stash = writing.stash })
  ]
  stops_other (Tampered q x) left leaf old new is = (record { cut = is.0.cut; stays = stays_other left old new is.0.stays }, is.1)
  stops_other StashFull left leaf old new is = (is.0, stays_other left old new is.1)

  answers_other : (left : Index) (op : Op) (draw : ℕ) (s : State Row) (got : Got) (new : World) → Answers other left op draw s got new → Answers index left op draw s got new
  answers_other left op draw s got new is = record { went = is.went; is = is.is; answer = is.answer; lies = is.lies }

  block_other : (walk : Walk) (c : ℕ) (kept : Option Row) (old new : World) → OpensBlock other walk c kept old new → OpensBlock index walk c kept old new
  block_other (Stash slots height) c kept old new is = record { went = is.went; gives = is.gives; slot = is.slot; fits = is.fits; opened = is.opened; is = is.is }
  block_other (Path height leaf) c kept old new is = record { went = is.went; gives = is.gives; slot = is.slot; fits = is.fits; opened = is.opened; is = is.is }

  blocks_other : (walk : Walk) (slots : Slots) (n : ℕ) (old new : World) → OpensFirst other walk slots n old new → OpensFirst index walk slots n old new
  blocks_other walk slots zero old new is = is
  blocks_other walk slots (suc n) old new is = (is.0, blocks_other walk slots n old is.0 is.1, block_other walk n (get_or slots (slot_in walk n) None) is.0 new is.2)

  many_other : (op : Op) (draw : ℕ) (old new : World) → ReadsTooMany other op draw old new → ReadsTooMany index op draw old new
  many_other op draw old new is = record {
    slots = is.slots;
    keyed = record { within = is.keyed.within };
    opens = record {
      spare = is.opens.spare;
      count = is.opens.count;
      blocks = record {
        mid = is.opens.blocks.mid;
        stash = blocks_other (stash_blocks index) is.slots index.slots old is.opens.blocks.mid is.opens.blocks.stash;
        path = blocks_other (leaf_blocks index (leaf_read index op draw)) is.slots (path_blocks index.height) is.opens.blocks.mid new is.opens.blocks.path;
      };
      lying = λ honest s lies. let here = is.opens.lying honest s (lies_other s old lies) in record { path = here.path; stash = here.stash };
      told = λ honest s lies. is.opens.told honest s (record { lies = lies_other s old lies.lies; stands = lies.stands });
    };
    crowded = is.crowded;
  }

  pub left_other : (left : Index) (op : Op) (draw : ℕ) (r : Result Got OramErr) → LeftBy r index op draw left → LeftBy r other op draw left
  left_other left op draw (Ok got) by = record { ok = record { same = by.ok.same; leaves = by.ok.leaves }; err = tt; ended = tt; buffer = by.buffer }
  left_other left op draw (Err e) by = record { ok = tt; err = record { same = by.err.same; leaves = by.err.leaves }; ended = by.ended; buffer = tt }

  pub accesses_other : (left : Index) (op : Op) (draw : ℕ) (r : Result Got OramErr) (old new : World) → Accesses other left op draw r old new → Accesses index left op draw r old new
  accesses_other left op draw (Ok got) old new is = record {
    ok = is.ok;
    err = tt;
    seals = record { seals = is.seals.seals };
    leaves = has_other (leaves_after index op draw) left is.leaves;
    stands = is.stands;
    ended = tt;
    range = is.range;
    maps = λ honest m map.
        let answers = is.maps honest m (record { state = map.state; lies = lies_other map.state old map.lies; represents = map.represents }) in
        record { answer = answers.answer; map = answers.map };
    full = λ no. absurd (cc no);
    told = λ honest s lies. answers_other left op draw s got new (is.told honest s (record { lies = lies_other s old lies.lies; stands = lies.stands }));
    room = λ honest s lies. is.room honest s (record { lies = lies_other s old lies.lies; stands = lies.stands });
  }
  accesses_other left op draw (Err e) old new is = record {
    ok = tt;
    err = stops_other e left (leaf_read index op draw) old new is.err;
    seals = record { seals = is.seals.seals };
    leaves = tt;
    stands = tt;
    ended = is.ended;
    range = tt;
    maps = λ honest m map. tt;
    full = λ same. many_other op draw old new (is.full same);
    told = λ honest s lies. is.told honest s (record { lies = lies_other s old lies.lies; stands = lies.stands });
    room = λ honest s lies. is.room honest s (record { lies = lies_other s old lies.lies; stands = lies.stands });
  }

-- zero rows are a buffer without a row
module _ {rows : List (List ℕ)} (n wide : ℕ) (value : rows ≡ replicate n (clear wide)) where
  zero_row : (j : ℕ) → j < n → row_at rows j ≡ clear wide
  zero_row j below = ap (λ (l : List (List ℕ)). row_at l j) value ∙ get_or-replicate n j (clear wide) [] below

  count : length rows ≡ n
  count = ap length value ∙ length-replicate n (clear wide)

  pub zero_buffer : IsBuffer wide rows
  zero_buffer = record { wide = λ j below. ap length (zero_row j (omega (arith, below, count))) ∙ length-replicate {A = ℕ} wide 0 }

  none_at : (m j : ℕ) → get_or (empty_slots m) j None ≡ None
  none_at m j = by_place (cases_lt j m)
    where
      by_place : (j < m) ⊎ (m ≤ j) → get_or (empty_slots m) j None ≡ None
      by_place (inl inside) = get_or-replicate m j None None inside
      by_place (inr past) = get_or_past (empty_slots m) j None (omega (arith, past, length-replicate {A = Option Row} m None))

  pub zero_open : (index : Index) (remap : Remap) (buffer : List (Option Held)) (m : ℕ) → m ≡ n → length buffer ≡ m → ((j : ℕ) → get_or buffer j None ≡ None) → width index.schema ≤ wide → IsOpen index remap (empty_slots m) buffer rows
  zero_open index remap buffer m same long none enough = record {
    sees = record {
      count = length-replicate m None ∙ sym long;
      same = count ∙ sym same ∙ sym long;
      begins = λ j below.
          subst (λ s. Begins index.schema s (row_at rows j)) (sym (none_at m j))
          (subst (Begins index.schema None) (sym (zero_row j (omega (arith, below, long, same)))) (zeros-begin index.schema wide enough));
      held = λ j. none j ∙ ap (option_map (held_of (key_of index) (leaf_with index remap))) (sym (none_at m j));
    };
    keyed = record { within = λ j row is. absurd (cc (none_at m j, is)) };
  }

-- an index that was left with another buffer, and maybe other leaves
pub has_buffer : (index : Index) (buffer : Vec (Option Held) Global) → HasLeaves (leaves_of index) index (record index { buffer = buffer })
has_buffer index buffer = record { same = refl; leaves = refl }

pub has_remap : (index left : Index) (buffer : Vec (Option Held) Global) (remap : Remap) (op : Op) (draw : ℕ) → remap ≡ remap_of index op draw → left ≡ record (record index { buffer = buffer }) { leaves = left.leaves } → leaves_of left ≡ leaves_with (record index { buffer = buffer }) remap
    → HasLeaves (leaves_after index op draw) index left
has_remap index left buffer remap op draw is same leaves = record {
  same = same ∙ (λ i. record index { leaves = left.leaves; buffer = sym (ap (λ (x : Index). x.buffer) same) i });
  leaves = leaves ∙ ap (λ (r : Remap). set (leaves_of index) r.key r.leaf) is;
}

-- a buffer that is put back is as long as it was
pub buffer_size : (v : Vec (Option Held) Global) (list : List (Option Held)) → length (with_items v list).items ≡ length v.items
buffer_size v list = sym (with_items v list).ok.0 ∙ v.ok.0
