-- The words that the proofs of this crate name most, passed on from one place. Declares nothing.
pub use Rattle.std.proofs.Common.{ap, append-nil, append_assoc, arith, Bool, Err, false, if◌then◌else◌, inl, inr, IsTrue, length, length-append, List, map, None, Ok, Option, refl, Result, Some, subst, suc, sym, take, true, zero, ℕ, [], ◌*◌, ◌++◌, ◌+◌, ◌-◌, ◌<◌, ◌^◌, ◌||◌, ◌∙◌, ◌∷◌, ◌≡◌, ◌≤◌, ◌⊎◌}
pub use Rattle.std.proofs.lemmas.Bool.{cases_eq, cases_lt, le-leb}
pub use Rattle.std.proofs.lemmas.Bool.Decides.{nat_tests}
pub use Rattle.std.proofs.lemmas.List.{length-map}
pub use Rattle.std.specs.Int.{div_ceil}
pub use Rattle.std.specs.List.{list_any}
pub use Rattle.std.specs.Option.{option_map_or}
pub use Rattle.std.specs.Prelude.{drop, IfErr, IfOk, IfSome, is_some, IsSome, nat_le, nat_lt, not, OnOk, slice_get, ◌&&◌}
pub use Rattle.ob_base.specs.Accesses.{discard_at}
pub use Rattle.ob_base.specs.Events.{Close, Event, Head, Leads, row_events}
pub use Rattle.ob_base.specs.Limits.{buffered, buffered_blocks}
pub use Rattle.ob_base.specs.Numbers.{blocks_for}
pub use Rattle.ob_base.specs.Refusals.{is_store_fault}
pub use Rattle.ob_base.specs.Schemas.{Columns, width}
pub use Rattle.ob_base.specs.Stored.{has_table, heading_at, headings, headings_of, Stored, stored_at}
pub use Rattle.ob_base.specs.declared.access.Access.{Access}
pub use Rattle.ob_base.specs.declared.config.Plan.{Plan}
pub use Rattle.ob_base.specs.declared.config.Plan.TheVariants.{Hash, Small}
pub use Rattle.ob_base.specs.declared.config.Public.{Public}
pub use Rattle.ob_base.specs.declared.emit.EmitErr.{EmitErr}
pub use Rattle.ob_base.specs.declared.refusal.Refusal.{Refusal}
pub use Rattle.ob_base.specs.declared.refusal.Refusal.TheVariants.{PadPassed}
pub use Rattle.ob_base.specs.declared.schema.Heading.{Heading}
pub use Rattle.ob_base.specs.declared.seen.End.{End}
pub use Rattle.ob_base.specs.declared.seen.End.TheVariants.{AfterCount, Cut, Batched, Static, Whole}
pub use Rattle.ob_base.specs.declared.seen.Seen.{Seen}
pub use Rattle.ob_base.specs.declared.shown.Shown.{Shown}
pub use Rattle.ob_base.specs.declared.skeleton.Skeleton.{Skeleton}
pub use Rattle.ob_base.specs.declared.skeleton.Source.{Source}
pub use Rattle.ob_emit.specs.Emitting.{header, labels_of}
pub use Rattle.ob_flat.proofs.Tables.{blocks_few}
pub use Rattle.ob_flat.specs.Flats.{IsFlat, IsSized}
pub use Rattle.ob_flat.specs.Passes.{is_of_access, PassCut, SinkCause}
pub use Rattle.ob_flat.specs.declared.fault.OpErr.{OpErr}
pub use Rattle.ob_inflight.specs.AfterTurns.{setting_off}
unfoldable pub use Rattle.ob_inflight.specs.AfterTurns.{AllMay}
pub use Rattle.ob_inflight.specs.Closing.{Closed, events_at}
pub use Rattle.ob_inflight.specs.Kinds.{Kind, Moment, taker_of}
pub use Rattle.ob_inflight.specs.Progress.{act_of, flying_of, Progress}
pub use Rattle.ob_mean.proofs.EarlyLemmas.{allowed}
pub use Rattle.ob_mean.specs.Batches.{is_cut}
pub use Rattle.ob_mean.specs.Conditions.{where_at}
pub use Rattle.ob_mean.specs.Lawful.{Lawful}
pub use Rattle.ob_mean.specs.Prints.{Prints, Unfinished}
pub use Rattle.ob_mean.specs.Refusals.{early_refusal, limits_of, source_tables}
pub use Rattle.ob_mean.specs.Replay.{count_end, cut_at, done_of, held_if, is_access, walk_end}
pub use Rattle.ob_mean.specs.Step.{answered, printed_places, select_columns, source_rows}
pub use Rattle.ob_mean.specs.Verdict.{accessed, database, Draws, Held, is_late, source_slots, Tables, verdict}
pub use Rattle.ob_mean.specs.declared.answer.Answer.{Answer}
pub use Rattle.ob_names.specs.Names.{left_place}
pub use Rattle.ob_oram.specs.declared.index.Index.{Index}
pub use Rattle.ob_reopen.specs.Keepers.{KeeperState}
pub use Rattle.ob_room.specs.RoomState.{RoomState}
pub use Rattle.ob_row.specs.Bags.{Same}
pub use Rattle.ob_row.specs.Condition.{Condition}
pub use Rattle.ob_row.specs.Slots.{rows, Slots}
pub use Rattle.ob_script.proofs.FlightEnds.{first_of_merge}
pub use Rattle.ob_script.proofs.Lengths.{length-count_part}
pub use Rattle.ob_script.specs.FlightLaws.{AllMayFly, SelectsFromOne}
pub use Rattle.ob_script.specs.Flights.{accesses_in, AreSteady, boarding, flight_public, Flying, merge}
unfoldable pub use Rattle.ob_script.specs.Flights.{turns}
pub use Rattle.ob_script.specs.Parts.{count_part}
pub use Rattle.ob_script.specs.Saved.{ChangesFlat, left_by, run_script}
pub use Rattle.ob_script.specs.Script.{changes_tables, extent_of, is_saved, script, until_end, whole_script}
pub use Rattle.ob_script.specs.Trace.{Served}
pub use Rattle.ob_seal.specs.KeySet.{KeySet}
pub use Rattle.ob_select.proofs.ResultParts.{some_buffered}
pub use Rattle.ob_select.proofs.SelectHeld.{held_empty}
pub use Rattle.ob_select.specs.Memory.{HasHalted}
pub use Rattle.ob_select.specs.Opening.{Opens}
pub use Rattle.ob_select.specs.Selecting.{answer_events, counted_after, from, HoldsSeen, MayHold, MaySelect, places, SealsRows, Selection, selection_answer, selection_script, selection_seen, SelectsFrom}
pub use Rattle.ob_select.specs.Settings.{IsFree}
pub use Rattle.ob_select.specs.declared.selecting.Selected.{Selected}
pub use Rattle.ob_sql.specs.Skeleton.{skeleton}
pub use Rattle.ob_sql.specs.declared.stmt.Stmt.{Stmt}
pub use Rattle.ob_sql.specs.declared.stmt.Stmt.TheVariants.{Create, Delete, Insert, Update}
pub use Rattle.ob_stages.proofs.TotalsLemmas.{partly_none}
pub use Rattle.ob_stages.specs.Flying.{flight_progress}
pub use Rattle.ob_stages.specs.RowsStates.{RowsAt}
pub use Rattle.ob_stages.specs.declared.rows.Stage.{Stage}
pub use Rattle.ob_store.proofs.Steps.{later_rests, none_before}
pub use Rattle.ob_store.specs.Calls.{ChangesNothing}
pub use Rattle.ob_store.specs.Runs.{Later}
pub use Rattle.ob_store.specs.State.{FalseRead, StoreState}
pub use Rattle.ob_tables.proofs.EmitLemmas.{unfit_none}
pub use Rattle.ob_tables.proofs.FoundLemmas.{heading_found, is_there}
pub use Rattle.ob_tables.proofs.HeldLemmas.{held_at}
pub use Rattle.ob_tables.proofs.RunLemmas.{at_ok, of_other, rests_refl}
pub use Rattle.ob_tables.proofs.TableLemmas.{AreNamed, region_below}
pub use Rattle.ob_tables.proofs.ToldLemmas.{early_held}
pub use Rattle.ob_tables.specs.Agreeing.{Agrees, AreDraws, count_of, world_of}
pub use Rattle.ob_tables.specs.Engines.{flat_of, IsAt, IsFound}
unfoldable pub use Rattle.ob_tables.specs.Engines.{others_of}
pub use Rattle.ob_tables.specs.Running.{answer_of, is_fault, is_stop, outcome_end, RefusedEarly, SinkStops}
pub use Rattle.ob_tables.specs.Serving.{Serves, Stopped}
pub use Rattle.ob_tables.specs.Telling.{answer_labels, AreHeld, Emitted, is_refused, IsNotTampered, ReadsTrue, ReadsTrueUntil}
pub use Rattle.ob_tables.specs.declared.engine.Engine.{Engine}
pub use Rattle.ob_tables.specs.declared.stop.RunStop.{RunStop}
pub use Rattle.ob_tables.specs.declared.stop.RunStop.TheVariants.{KeeperFault, SinkFault, StashFull}
pub use Rattle.ob_vault.proofs.Runs.{seals_join}
pub use Rattle.ob_vault.proofs.WordLemmas.{seals_rests, went_rests}
pub use Rattle.ob_vault.specs.Calls.{Lasts, none, Seals, Went}
pub use Rattle.ob_vault.specs.Places.{at}
pub use Rattle.ob_vault.specs.State.{RevState, World}
pub use Rattle.ob_vault.specs.Tied.{Untampered, IsUnfit, ReadsIn}
pub use Rattle.ob_vault.specs.declared.vault.Vault.{Vault}
pub use Rattle.ob_verdict.proofs.LawfulProof.{same_script}
pub use Rattle.ob_verdict.specs.Laws.{AreInPlace}
pub use Rattle.ob_verdict.specs.Outcomes.{by_fault, Emits, Partly, refusal_now}
pub use Rattle.ob_verdict.specs.declared.outcome.Outcome.{Outcome}
pub use Rattle.ob_exec.specs.Commits.{ended_at, is_due}
pub use Rattle.ob_exec.specs.Boarding.{engine_behind, FitShares, flight_kind, IsAboard, MayFlyBy}
pub use Rattle.ob_exec.specs.InFlight.{early_of, IsMeant}
pub use Rattle.ob_exec.specs.RanFlight.{asked_by, asked_since, EndedWithin, halt_of, in_flight, RanFlight}
pub use Rattle.ob_exec.specs.Saving.{SavesTables, SavingCause}
pub use Rattle.ob_exec.specs.Sources.{closing, EndsRows, HaltsRows, HoldsRows, LeavesNone, rows_script, selected_outcome, selection, slots_of, SourceToEnd, SourceToHalt, stated, UsesRoomFor}
