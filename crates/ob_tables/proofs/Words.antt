-- The words that the proofs of this crate name most, passed on from one place. Declares nothing.
pub use Rattle.std.proofs.Common.{ap, append-nil, append_assoc, arith, Bool, cond, drop, Err, false, get_or, Global, if◌then◌else◌, inl, inr, length, List, map, MatchResult, None, Ok, Option, refl, replicate, Result, slice_index_or, Some, subst, suc, sym, take, true, zero, ℕ, [], ◌%◌, ◌*◌, ◌++◌, ◌+◌, ◌-◌, ◌<◌, ◌==◌, ◌^◌, ◌∙◌, ◌∷◌, ◌≡◌, ◌≢◌, ◌≤◌, ◌⊎◌}
pub use Rattle.std.proofs.lemmas.Bool.{cases_eq, cases_lt}
pub use Rattle.std.proofs.lemmas.Bool.Decides.{nat_tests}
pub use Rattle.std.proofs.lemmas.List.{length-append, length-map}
pub use Rattle.std.proofs.lemmas.List.Elements.{All-head, All-tail}
pub use Rattle.std.proofs.lemmas.Option.{slice_get_read, slice_get_within}
pub use Rattle.std.proofs.lemmas.Slice.Eq.{bytes_eq-Decides}
pub use Rattle.std.specs.List.{remove}
pub use Rattle.std.specs.Option.{option_map, option_map_or}
pub use Rattle.std.specs.Prelude.{bytes_eq, count_by, IfOk, IsSome, IsTrue, max, nat_lt, not, slice_get, slice_set, ◌&&◌, ◌||◌}
pub use Rattle.std.specs.declared.vec.Vec.{Vec}
pub use Rattle.ob_base.specs.Accesses.{drop_script, make_at}
unfoldable pub use Rattle.ob_base.specs.Accesses.{makes}
pub use Rattle.ob_base.specs.Events.{Event}
pub use Rattle.ob_base.specs.Indexes.{by_shape, height_of}
pub use Rattle.ob_base.specs.Lists.{has_repeats, tabulate}
pub use Rattle.ob_base.specs.Numbers.{blocks_for}
pub use Rattle.ob_base.specs.Refusals.{is_store_fault}
pub use Rattle.ob_base.specs.Schemas.{Columns, columns_of, width}
pub use Rattle.ob_base.specs.Stored.{changed_at, has_table, heading_at, headings, headings_of, Stored, stored_at, stored_region, stored_regions}
pub use Rattle.ob_base.specs.declared.access.Access.{Access}
pub use Rattle.ob_base.specs.declared.config.Public.{Public}
pub use Rattle.ob_base.specs.declared.emit.EmitErr.{EmitErr}
pub use Rattle.ob_base.specs.declared.refusal.Refusal.{Refusal}
pub use Rattle.ob_base.specs.declared.schema.Column.{Column}
pub use Rattle.ob_base.specs.declared.schema.Heading.{Heading}
pub use Rattle.ob_base.specs.declared.schema.Shape.TheVariants.{Indexed}
pub use Rattle.ob_base.specs.declared.seen.End.{End}
pub use Rattle.ob_base.specs.declared.seen.End.TheVariants.{AfterCount, Cut, Batched, Static, Whole}
pub use Rattle.ob_base.specs.declared.seen.Seen.{Seen}
pub use Rattle.ob_base.specs.declared.skeleton.Skeleton.{Skeleton}
pub use Rattle.ob_base.specs.declared.skeleton.Skeleton.TheVariants.{Groups}
pub use Rattle.ob_base.specs.declared.skeleton.Source.{Source}
pub use Rattle.ob_base.specs.declared.skeleton.Source.TheVariants.{Join}
pub use Rattle.ob_flat.proofs.Tables.{represents_lasts}
pub use Rattle.ob_flat.specs.Flats.{IsFlat, table_region}
pub use Rattle.ob_flat.specs.Passes.{PassCut}
pub use Rattle.ob_flat.specs.declared.fault.OpErr.{OpErr}
pub use Rattle.ob_keyed.specs.Answering.{got_outcome}
pub use Rattle.ob_keyed.specs.Seeing.{seen_cut, seen_whole}
pub use Rattle.ob_keyed.specs.declared.keyed.Keyed.{Keyed}
pub use Rattle.ob_mean.proofs.EarlyLemmas.{allowed, neither}
pub use Rattle.ob_mean.proofs.FlatLemmas.{MakesFlat}
pub use Rattle.ob_mean.proofs.VerdictLemmas.{heading-stored, refused_late}
pub use Rattle.ob_mean.specs.Batches.{settle_all}
pub use Rattle.ob_mean.specs.Flats.{AreFlat}
pub use Rattle.ob_mean.specs.Lawful.{Lawful, selects_rows}
pub use Rattle.ob_mean.specs.Refusals.{early_refusal, is_index, limits_of}
pub use Rattle.ob_mean.specs.Replay.{drawn_by, draws_taken, has_index, held_if, is_access}
pub use Rattle.ob_mean.specs.Settle.{settle, settled}
pub use Rattle.ob_mean.specs.Step.{accepted_answer, followed, printed_places}
pub use Rattle.ob_mean.specs.Verdict.{accessed, database, Draws, Held, in_slots, index_of, is_late, refusal, seen, Tables, verdict}
pub use Rattle.ob_mean.specs.declared.answer.Answer.{Answer}
pub use Rattle.ob_mutate.specs.Batches.{AreFit}
pub use Rattle.ob_mutate.specs.declared.inserting.Inserted.TheVariants.{Done}
pub use Rattle.ob_mutate.specs.declared.settling.Former.{Former}
pub use Rattle.ob_names.specs.Names.{columns_at}
pub use Rattle.ob_oram.proofs.Lasting.{index_kept}
pub use Rattle.ob_oram.specs.Indexes.{IsIndex, IsStoredAs}
pub use Rattle.ob_oram.specs.Ops.{got_in}
pub use Rattle.ob_oram.specs.Scripts.{access_script}
pub use Rattle.ob_oram.specs.declared.fault.OramErr.{OramErr}
pub use Rattle.ob_oram.specs.declared.index.Index.{Index}
pub use Rattle.ob_oram.specs.declared.op.Got.{Got}
pub use Rattle.ob_reopen.specs.Closings.{IsClosing}
pub use Rattle.ob_reopen.specs.Limits.{IsCatalogue, IsMarked}
pub use Rattle.ob_reopen.specs.Openings.{IsReopened, ReopensTables}
pub use Rattle.ob_reopen.specs.Reopened.{opened_public}
pub use Rattle.ob_reopen.specs.Resting.{AcceptsClosings, AreKept, IsAtRest}
pub use Rattle.ob_reopen.specs.Writings.{AreSalted, catalogue_of, HasBlock, WritesClosing}
pub use Rattle.ob_reopen.specs.declared.closing.Closing.{Closing}
pub use Rattle.ob_reopen.specs.declared.listed.Listed.{Listed}
pub use Rattle.ob_reopen.specs.declared.mark.Mark.{Mark}
pub use Rattle.ob_reopen.specs.declared.mark.Mark.TheVariants.{InUse}
pub use Rattle.ob_room.specs.RoomState.{RoomState}
pub use Rattle.ob_row.specs.Slots.{rows, Slots}
pub use Rattle.ob_row.specs.Spelling.{FitsColumns, IsCell}
pub use Rattle.ob_row.specs.Truth.{is_true}
pub use Rattle.ob_script.specs.Parts.{copy_part, count_part, insert_part, rewrite_part}
pub use Rattle.ob_script.specs.Saved.{behind_run, left_region, run_script, whole_run}
pub use Rattle.ob_script.specs.Script.{with_table}
pub use Rattle.ob_seal.specs.Draws.{draw_at, DrawPlace}
pub use Rattle.ob_seal.specs.KeySet.{draw_seed_of, KeySet}
pub use Rattle.ob_select.proofs.RoomLemmas.{free_after}
pub use Rattle.ob_select.specs.Opening.{Opens}
pub use Rattle.ob_select.specs.Selecting.{UsesRoom}
pub use Rattle.ob_select.specs.Settings.{IsFree}
pub use Rattle.ob_sql.specs.Skeleton.{skeleton}
pub use Rattle.ob_sql.specs.declared.stmt.Stmt.{Stmt}
pub use Rattle.ob_store.proofs.Steps.{later_rests}
pub use Rattle.ob_store.specs.Calls.{IsBounded, KeepsLive}
pub use Rattle.ob_store.specs.Runs.{Began, Did}
pub use Rattle.ob_store.specs.State.{KeptRegion, FalseRead, StoreState}
pub use Rattle.ob_vault.proofs.Runs.{seals_join, went_join}
pub use Rattle.ob_vault.proofs.WordLemmas.{seals_rests, went_rests}
pub use Rattle.ob_vault.specs.Calls.{Lasts, none, one, Seals, two, Went}
pub use Rattle.ob_vault.specs.Places.{start_of}
pub use Rattle.ob_vault.specs.State.{RevState, Start, World}
unfoldable pub use Rattle.ob_vault.specs.State.{earlier}
pub use Rattle.ob_vault.specs.Tied.{Untampered, Lives, Ready, TagFits}
pub use Rattle.ob_vault.specs.Words.{IsHonest, MayAsk}
pub use Rattle.ob_vault.specs.declared.region.Order.TheVariants.{Round}
pub use Rattle.ob_vault.specs.declared.region.Region.{Region}
pub use Rattle.ob_vault.specs.declared.vault.Vault.{Vault}
pub use Rattle.ob_verdict.specs.Laws.{AreInPlace}
pub use Rattle.ob_verdict.specs.Outcomes.{by_fault, outcome_of, refusal_now}
pub use Rattle.ob_verdict.specs.declared.outcome.Outcome.{Outcome}
pub use Rattle.ob_verdict.specs.declared.outcome.Outcome.TheVariants.{Changed, Created, Deleted, Dropped, Refused}
pub use Rattle.rand_chacha.specs.ChaCha.{key_of}
pub use Rattle.ob_tables.specs.Agreeing.{Agrees, AreDraws, count_of, engine_start, world_of}
pub use Rattle.ob_tables.specs.Batch.{AreServedWith, failed_by, given_all, refusal_by, rows_in}
pub use Rattle.ob_tables.specs.Engines.{AreTables, flat_of, former_of, IsAt, IsBeside, IsIndexIn, IsIndexOfTable, IsStashOf, IsTable, IsTableRegion, IsTreeOf}
unfoldable pub use Rattle.ob_tables.specs.Engines.{others_of}
pub use Rattle.ob_tables.specs.Indexed.{EmitsGot, IsAccessed, IsDone}
pub use Rattle.ob_tables.specs.Refusals.{refused_end}
pub use Rattle.ob_tables.specs.Running.{answer_of, HasNoRows, inserted_as, is_fault, is_stop, IsSilent, RanStatement, RunCause, stop_of}
pub use Rattle.ob_tables.specs.Schemas.{IsSet}
pub use Rattle.ob_tables.specs.Serving.{Means, Serves, ServesSilently}
pub use Rattle.ob_tables.specs.Telling.{answer_labels, AreHeld, HoldsTable, KeepsSealed, ReadsTrue}
pub use Rattle.ob_tables.specs.declared.engine.Engine.{Engine}
pub use Rattle.ob_tables.specs.declared.stop.RunStop.{RunStop}
