use Rattle.std.proofs.Common.{◌*◌, length, ◌∙◌, Err, ap, refl, arith}
use Rattle.std.proofs.lemmas.Result.{err_from_is_err_and}
use Rattle.ob_base.specs.Schemas.{Columns, width}
use Rattle.ob_vault.specs.Calls.{one}
use Rattle.ob_vault.proofs.Runs.{lives_apart}
use Rattle.ob_flat.proofs.Tables.{blocks_few, fits_sized, flat_is}
use Rattle.ob_flat.proofs.Rooms.{same_rows}
use Rattle.ob_vault.proofs.WordLemmas.{asks_start, asks_after}
use Rattle.ob_join.specs.Join.{join_of, blocks, columns}
use Rattle.ob_join.proofs.Lengths.{product_least}
use Rattle.ob_join.proofs.Making.{went_make, cut_make, did_make, capacity_is, blocks_are, columns_few}
use Rattle.ob_join.proofs.Joined.{may_lasts, joins_none, joins_ok, joins_err, tells_ok, tells_err}
use Rattle.ob_join.proofs.tables.join_tables.Goals as goal

pub overflow_mul-capacity : goal.overflow_mul-capacity
overflow_mul-capacity g c =
    let join = join_of (length c.args.rows.now) c.args.sides.now in
    omega (
      arith,
      product_least (c.div_ceil-chunks.result * c.div_ceil-2.result) join.pack c.requires.buffers.some,
      capacity_is join.pack join.left.capacity join.right.capacity join.buffered _ _ _ c.div_ceil.ensures c.div_ceil-chunks.ensures c.div_ceil-2.ensures,
      c.requires.tables.sized.most,
    )

pub joined_schema-schema-requires : goal.joined_schema-schema-requires
joined_schema-schema-requires g c = columns_few _ _ c.requires.tables.sized.few

pub make_table-requires : goal.make_table-requires
make_table-requires g c =
    let join = join_of (length c.args.rows.now) c.args.sides.now in
    let slots = capacity_is join.pack join.left.capacity join.right.capacity join.buffered _ _ _ c.div_ceil.ensures c.div_ceil-chunks.ensures c.div_ceil-2.ensures in
    record {
      spare = record { ready = c.requires.starts.ready; spare = omega (arith, c.requires.starts.spare) };
      few = omega (arith, c.requires.starts.few);
      size = rw (slots, c.joined_schema-schema.ensures) (fits_sized _ _ _ c.requires.buffers.some c.requires.tables.sized);
      pack = (c.requires.buffers.some, c.requires.buffers.most);
    }

pub returns-in_err-region-clause-rows : goal.returns-in_err-region-clause-rows
returns-in_err-region-clause-rows g c = same_rows c.args.rows.now

pub returns-in_err-region-clause-out : goal.returns-in_err-region-clause-out
returns-in_err-region-clause-out g c = same_rows c.args.out.now

pub returns-in_err-region-clause-kept : goal.returns-in_err-region-clause-kept
returns-in_err-region-clause-kept g c = same_rows c.args.kept.now

pub returns-in_err-region-clause-joins : goal.returns-in_err-region-clause-joins
returns-in_err-region-clause-joins g c =
    let p = err_from_is_err_and c.from_residual.result c.from_residual.ensures.1 in
    let join = join_of (length c.args.rows.now) c.args.sides.now in
    let next = c.args.vault.now.next in
    let count = blocks_are join.pack join.left.capacity join.right.capacity join.buffered _ _ _ c.requires.buffers.some c.div_ceil.ensures c.div_ceil-chunks.ensures c.div_ceil-2.ensures in
    let cut = c.in_err-region.ensures.makes in
    let wide = ap (λ (s : Columns). join.pack * width s) c.joined_schema-schema.ensures in
    let made = cut_make next _ (blocks join) _ (join.pack * width (columns join)) (one next) _ _ count wide _ cut.ran.err in
    let did = did_make next _ (blocks join) _ (join.pack * width (columns join)) count wide in
    rw (p.1, p.2) (joins_none join _ c.requires.starts.ready c.requires.tables _ _ made cut.never (λ none. did (cut.memory.did (ap Err none))) cut.gone cut.seals.seals)

pub returns-in_err-region-clause-told : goal.returns-in_err-region-clause-told
returns-in_err-region-clause-told g c =
    let p = err_from_is_err_and c.from_residual.result c.from_residual.ensures.1 in
    rw (p.1, p.2) (record { told = λ honest left right first second. c.in_err-region.ensures.makes.never })

pub fill_result-requires : goal.fill_result-requires
fill_result-requires g c =
    let join = join_of (length c.args.rows.now) c.args.sides.now in
    let made = c.in_ok-region.ensures.makes in
    let ready = c.requires.starts.ready in
    let tables = c.requires.tables in
    let few = blocks_few join.pack join.left.capacity c.requires.buffers.some in
    let least = product_least (blocks join) join.pack c.requires.buffers.some in
    let capacity = capacity_is join.pack join.left.capacity join.right.capacity join.buffered _ _ _ c.div_ceil.ensures c.div_ceil-chunks.ensures c.div_ceil-2.ensures in
    record {
      asks = asks_after (asks_start c.requires.starts (omega (arith, few, tables.left_size.most, least, tables.sized.most))) made.ran.ok (omega arith);
      tables = may_lasts join _ ready tables _ made.ran.ok.lasts;
      new = record {
        same = flat_is c.joined_schema-schema.ensures capacity refl;
        made = rw made.number made.made;
        left_apart = λ same. lives_apart _ _ _ ready tables.left.made.lives (same ∙ made.number);
        right_apart = λ same. lives_apart _ _ _ ready tables.right.made.lives (same ∙ made.number);
      };
      buffers = c.requires.buffers;
      kept = c.requires.kept;
      places = c.requires.places;
      few = c.requires.few;
    }

pub returns-in-Ok-clause-rows : goal.returns-in-Ok-clause-rows
returns-in-Ok-clause-rows g c = c.fill_result.ensures.rows

pub returns-in-Ok-clause-out : goal.returns-in-Ok-clause-out
returns-in-Ok-clause-out g c = c.fill_result.ensures.out

pub returns-in-Ok-clause-kept : goal.returns-in-Ok-clause-kept
returns-in-Ok-clause-kept g c = c.fill_result.ensures.kept

pub returns-in-Ok-clause-joins : goal.returns-in-Ok-clause-joins
returns-in-Ok-clause-joins g c =
    let join = join_of (length c.args.rows.now) c.args.sides.now in
    let next = c.args.vault.now.next in
    let made = c.in_ok-region.ensures.makes in
    let capacity = capacity_is join.pack join.left.capacity join.right.capacity join.buffered _ _ _ c.div_ceil.ensures c.div_ceil-chunks.ensures c.div_ceil-2.ensures in
    let count = blocks_are join.pack join.left.capacity join.right.capacity join.buffered _ _ _ c.requires.buffers.some c.div_ceil.ensures c.div_ceil-chunks.ensures c.div_ceil-2.ensures in
    let went = went_make next _ (blocks join) _ (join.pack * width (columns join)) (one next) _ _ count (ap (λ (s : Columns). join.pack * width s) c.joined_schema-schema.ensures) made.ran.ok in
    let lives = rw (capacity, c.joined_schema-schema.ensures) at made.lives in
    let fills = rw made.number at c.in-Ok.ensures.fills in
    rw (c.joined_schema-schema.ensures, capacity, made.number) (joins_ok join _ c.requires.starts.ready c.requires.tables _ went made.seals.seals _ _ lives fills)

pub returns-in-Ok-clause-told : goal.returns-in-Ok-clause-told
returns-in-Ok-clause-told g c =
    let join = join_of (length c.args.rows.now) c.args.sides.now in
    let next = c.args.vault.now.next in
    let made = c.in_ok-region.ensures.makes in
    let capacity = capacity_is join.pack join.left.capacity join.right.capacity join.buffered _ _ _ c.div_ceil.ensures c.div_ceil-chunks.ensures c.div_ceil-2.ensures in
    let count = blocks_are join.pack join.left.capacity join.right.capacity join.buffered _ _ _ c.requires.buffers.some c.div_ceil.ensures c.div_ceil-chunks.ensures c.div_ceil-2.ensures in
    let went = went_make next _ (blocks join) _ (join.pack * width (columns join)) (one next) _ _ count (ap (λ (s : Columns). join.pack * width s) c.joined_schema-schema.ensures) made.ran.ok in
    let fills = rw made.number at c.in-Ok.ensures.fills in
    rw (c.joined_schema-schema.ensures, capacity, made.number) (tells_ok join _ c.requires.starts.ready c.requires.tables _ went made.seals.seals _ _ fills)

pub returns-in-Err-clause-rows : goal.returns-in-Err-clause-rows
returns-in-Err-clause-rows g c = c.fill_result.ensures.rows

pub returns-in-Err-clause-out : goal.returns-in-Err-clause-out
returns-in-Err-clause-out g c = c.fill_result.ensures.out

pub returns-in-Err-clause-kept : goal.returns-in-Err-clause-kept
returns-in-Err-clause-kept g c = c.fill_result.ensures.kept

pub returns-in-Err-clause-joins : goal.returns-in-Err-clause-joins
returns-in-Err-clause-joins g c =
    let join = join_of (length c.args.rows.now) c.args.sides.now in
    let next = c.args.vault.now.next in
    let made = c.in_ok-region.ensures.makes in
    let count = blocks_are join.pack join.left.capacity join.right.capacity join.buffered _ _ _ c.requires.buffers.some c.div_ceil.ensures c.div_ceil-chunks.ensures c.div_ceil-2.ensures in
    let went = went_make next _ (blocks join) _ (join.pack * width (columns join)) (one next) _ _ count (ap (λ (s : Columns). join.pack * width s) c.joined_schema-schema.ensures) made.ran.ok in
    let fills = rw made.number at c.in-Err.ensures.fills in
    let forgets = c.forget.ensures.forgets (g.S.BlockStore.state c.fill_result.new.store) in
    let forgot = rw made.number at forgets.went fills.ran.err.lasts.ready in
    let gone = rw made.number at forgets.gone in
    joins_err join _ c.requires.starts.ready c.requires.tables _ went made.seals.seals _ _ _ fills forgot refl forgets.seals gone

pub returns-in-Err-clause-told : goal.returns-in-Err-clause-told
returns-in-Err-clause-told g c =
    let join = join_of (length c.args.rows.now) c.args.sides.now in
    let next = c.args.vault.now.next in
    let made = c.in_ok-region.ensures.makes in
    let count = blocks_are join.pack join.left.capacity join.right.capacity join.buffered _ _ _ c.requires.buffers.some c.div_ceil.ensures c.div_ceil-chunks.ensures c.div_ceil-2.ensures in
    let went = went_make next _ (blocks join) _ (join.pack * width (columns join)) (one next) _ _ count (ap (λ (s : Columns). join.pack * width s) c.joined_schema-schema.ensures) made.ran.ok in
    let fills = rw made.number at c.in-Err.ensures.fills in
    tells_err join _ c.requires.starts.ready c.requires.tables _ went made.seals.seals _ _ _ fills refl
