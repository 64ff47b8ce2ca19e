-- Words of the command lines, and the settings that they spell, computed.
use Rattle.ob_headline.proofs.Words.{codes, Config, Continuous, false, FlightSettings, Hash, Large, List, None, Option, refl, Some, Text, true, [], ◌∷◌, ◌≡◌}
use Rattle.std.specs.Prelude.{option_and_then}
use Rattle.clap.proofs.OnLiterals.{clap_on_literals}
use Rattle.clap.specs.Words.{fault_of}
use Rattle.clap.specs.declared.error.kind.ErrorKind.TheVariants as kind
use Rattle.ob_base.specs.declared.config.Planner.TheVariants.{Auto, Cheapest, Forced}
use Rattle.ob_headline.specs.Settings.{batch_in, fitted, flight_beside, flight_by, flight_in, flight_of, generated_by, number_in, pad_in, planner_in, saved_settings_of, seed_in, settings_of}
use Rattle.ob_headline.specs.Usage.{Parses, is_saved, kept_usage, mark_of, meddle_usage, store_of, usage}

-- ---- one value
the_least : number_in 4 65536 64 (Some (codes "4")) ≡ Some 4
the_least = refl

the_greatest : number_in 4 65536 64 (Some (codes "65536")) ≡ Some 65536
the_greatest = refl

not_given : number_in 4 65536 64 None ≡ Some 64
not_given = refl

too_small : number_in 4 65536 64 (Some (codes "3")) ≡ None
too_small = refl

too_great : number_in 4 65536 64 (Some (codes "65537")) ≡ None
too_great = refl

no_zeros_before : number_in 4 65536 64 (Some (codes "04")) ≡ None
no_zeros_before = refl

no_sign : number_in 4 65536 64 (Some (codes "+64")) ≡ None
no_sign = refl

no_digits : number_in 4 65536 64 (Some []) ≡ None
no_digits = refl

hash : planner_in (Some (codes "hash")) ≡ Some (Forced Hash)
hash = refl

auto : planner_in (Some (codes "auto")) ≡ Some Auto
auto = refl

no_planner_given : planner_in None ≡ Some Auto
no_planner_given = refl

cheapest : planner_in (Some (codes "cheapest")) ≡ Some Cheapest
cheapest = refl

no_plan : planner_in (Some (codes "fast")) ≡ None
no_plan = refl

unpadded : pad_in None ≡ Some None
unpadded = refl

least_pad : pad_in (Some (codes "1")) ≡ Some (Some 1)
least_pad = refl

greatest_pad : pad_in (Some (codes "1048576")) ≡ Some (Some 1048576)
greatest_pad = refl

pad_of_none : pad_in (Some (codes "0")) ≡ None
pad_of_none = refl

pad_too_great : pad_in (Some (codes "1048577")) ≡ None
pad_too_great = refl

unbatched : batch_in None ≡ Some None
unbatched = refl

least_batch : batch_in (Some (codes "2")) ≡ Some (Some 2)
least_batch = refl

greatest_batch : batch_in (Some (codes "65535")) ≡ Some (Some 65535)
greatest_batch = refl

batch_of_one : batch_in (Some (codes "1")) ≡ None
batch_of_one = refl

batch_too_great : batch_in (Some (codes "65536")) ≡ None
batch_too_great = refl

-- ---- three blocks and one row, and a plan that may be padded
room_enough : fitted 49 5 Auto 16 None 32 None false 4096 ≡ Some (record { buffer = 49; depth = 5; pack = 16; planner = Auto; pad = None; stash = 32; keep = false; save = false; batch = None; max_input = 4096 })
room_enough = refl

too_little : fitted 48 5 Auto 16 None 32 None false 4096 ≡ None
too_little = refl

padded_by_large : fitted 64 5 (Forced Large) 1 (Some 40) 32 None false 4096
    ≡ Some (record { buffer = 64; depth = 5; pack = 1; planner = Forced Large; pad = Some 40; stash = 32; keep = false; save = false; batch = None; max_input = 4096 })
padded_by_large = refl

padded_by_cheapest : fitted 64 5 Cheapest 1 (Some 40) 32 None false 4096
    ≡ Some (record { buffer = 64; depth = 5; pack = 1; planner = Cheapest; pad = Some 40; stash = 32; keep = false; save = false; batch = None; max_input = 4096 })
padded_by_cheapest = refl

no_padded_continuous : fitted 64 5 (Forced Continuous) 1 (Some 40) 32 None false 4096 ≡ None
no_padded_continuous = refl

no_padded_hash : fitted 64 5 (Forced Hash) 1 (Some 40) 32 None false 4096 ≡ None
no_padded_hash = refl

-- ---- what is generated
least_seed : seed_in (Some (codes "0,1")) ≡ Some (Some (record { start = 0; rows = 1 }))
least_seed = refl

greatest_seed : seed_in (Some (codes "18446744073709551615,4096")) ≡ Some (Some (record { start = 18446744073709551615; rows = 4096 }))
greatest_seed = refl

none_generated : seed_in None ≡ Some None
none_generated = refl

no_rows : seed_in (Some (codes "0,0")) ≡ None
no_rows = refl

too_many_rows : seed_in (Some (codes "0,4097")) ≡ None
too_many_rows = refl

start_too_great : seed_in (Some (codes "18446744073709551616,1")) ≡ None
start_too_great = refl

start_alone : seed_in (Some (codes "0")) ≡ None
start_alone = refl

zero_before_start : seed_in (Some (codes "01,1")) ≡ None
zero_before_start = refl

sign_before_start : seed_in (Some (codes "-1,1")) ≡ None
sign_before_start = refl

zero_before_rows : seed_in (Some (codes "0,01")) ≡ None
zero_before_rows = refl

three_numbers : seed_in (Some (codes "0,1,2")) ≡ None
three_numbers = refl

-- ---- how SELECTs fly
none_fly : flight_in None ≡ Some None
none_fly = refl

two_fly : flight_in (Some (codes "2,0")) ≡ Some (Some (record { most = 2; start = 0 }))
two_fly = refl

most_fly : flight_in (Some (codes "8,18446744073709551615")) ≡ Some (Some (record { most = 8; start = 18446744073709551615 }))
most_fly = refl

one_alone : flight_in (Some (codes "1,0")) ≡ None
one_alone = refl

too_many : flight_in (Some (codes "9,0")) ≡ None
too_many = refl

flight_start_too_great : flight_in (Some (codes "2,18446744073709551616")) ≡ None
flight_start_too_great = refl

zero_before_most : flight_in (Some (codes "02,0")) ≡ None
zero_before_most = refl

zero_before_flight_start : flight_in (Some (codes "2,00")) ≡ None
zero_before_flight_start = refl

signed_most : flight_in (Some (codes "+2,0")) ≡ None
signed_most = refl

no_flight_start : flight_in (Some (codes "2")) ≡ None
no_flight_start = refl

empty_flight_start : flight_in (Some (codes "2,")) ≡ None
empty_flight_start = refl

no_most : flight_in (Some (codes ",0")) ≡ None
no_most = refl

third_number : flight_in (Some (codes "2,0,0")) ≡ None
third_number = refl

-- how they fly that these words spell, beside the settings of the same words
abbrev flying_by : List Text → Option (Option FlightSettings)
flying_by words = option_and_then (λ (config : Config). flight_beside config (flight_by usage words)) (settings_of usage words)

-- ---- whole command lines
no_words : settings_of usage [] ≡ Some (record { buffer = 64; depth = 5; pack = 1; planner = Auto; pad = None; stash = 32; keep = false; save = false; batch = None; max_input = 1073741824 })
unfolding clap_on_literals
no_words = refl

no_words_parse : Parses usage []
unfolding clap_on_literals
no_words_parse = refl

two_words : settings_of usage (codes "--pack" ∷ codes "2" ∷ codes "--plan=hash" ∷ [])
    ≡ Some (record { buffer = 64; depth = 5; pack = 2; planner = Forced Hash; pad = None; stash = 32; keep = false; save = false; batch = None; max_input = 1073741824 })
unfolding clap_on_literals
two_words = refl

cheapest_plans : settings_of usage (codes "--plan" ∷ codes "cheapest" ∷ [])
    ≡ Some (record { buffer = 64; depth = 5; pack = 1; planner = Cheapest; pad = None; stash = 32; keep = false; save = false; batch = None; max_input = 1073741824 })
unfolding clap_on_literals
cheapest_plans = refl

they_parse : Parses usage (codes "--pack" ∷ codes "2" ∷ codes "--plan=hash" ∷ [])
unfolding clap_on_literals
they_parse = refl

pack_is_too_great : settings_of usage (codes "--pack" ∷ codes "22" ∷ []) ≡ None
unfolding clap_on_literals
pack_is_too_great = refl

padded : settings_of usage (codes "--pad" ∷ codes "40" ∷ []) ≡ Some (record { buffer = 64; depth = 5; pack = 1; planner = Auto; pad = Some 40; stash = 32; keep = false; save = false; batch = None; max_input = 1073741824 })
unfolding clap_on_literals
padded = refl

stashed : settings_of meddle_usage (codes "--stash" ∷ codes "89" ∷ []) ≡ Some (record { buffer = 64; depth = 5; pack = 1; planner = Auto; pad = None; stash = 89; keep = false; save = false; batch = None; max_input = 1073741824 })
unfolding clap_on_literals
stashed = refl

batched : settings_of usage (codes "--batch" ∷ codes "16" ∷ []) ≡ Some (record { buffer = 64; depth = 5; pack = 1; planner = Auto; pad = None; stash = 32; keep = false; save = false; batch = Some 16; max_input = 1073741824 })
unfolding clap_on_literals
batched = refl

batched_and_saved : saved_settings_of (codes "--batch" ∷ codes "2" ∷ codes "--save" ∷ []) ≡ Some (record { buffer = 64; depth = 5; pack = 1; planner = Auto; pad = None; stash = 32; keep = true; save = true; batch = Some 2; max_input = 1073741824 })
unfolding clap_on_literals
batched_and_saved = refl

batched_alone : settings_of meddle_usage (codes "--batch" ∷ codes "1" ∷ []) ≡ None
unfolding clap_on_literals
batched_alone = refl

stash_too_great : settings_of usage (codes "--stash" ∷ codes "1025" ∷ []) ≡ None
unfolding clap_on_literals
stash_too_great = refl

no_stash : settings_of usage (codes "--stash" ∷ codes "0" ∷ []) ≡ None
unfolding clap_on_literals
no_stash = refl

padded_by_hash : settings_of usage (codes "--pad" ∷ codes "40" ∷ codes "--plan=hash" ∷ []) ≡ None
unfolding clap_on_literals
padded_by_hash = refl

generated : generated_by usage (codes "--gen" ∷ codes "0,1" ∷ []) ≡ Some (Some (record { start = 0; rows = 1 }))
unfolding clap_on_literals
generated = refl

not_generated : generated_by meddle_usage [] ≡ Some None
unfolding clap_on_literals
not_generated = refl

flown : flight_of usage (codes "--flight" ∷ codes "2,0" ∷ []) ≡ Some (record { most = 2; start = 0 })
unfolding clap_on_literals
flown = refl

flown_by_small : flying_by (codes "--plan=small" ∷ codes "--flight" ∷ codes "4,9" ∷ []) ≡ Some (Some (record { most = 4; start = 9 }))
unfolding clap_on_literals
flown_by_small = refl

flown_padded : flying_by (codes "--pad" ∷ codes "40" ∷ codes "--flight" ∷ codes "4,9" ∷ []) ≡ Some (Some (record { most = 4; start = 9 }))
unfolding clap_on_literals
flown_padded = refl

unflown : flying_by (codes "--batch" ∷ codes "16" ∷ codes "--plan=hash" ∷ []) ≡ Some None
unfolding clap_on_literals
unflown = refl

no_flight_beside_batches : flying_by (codes "--batch" ∷ codes "16" ∷ codes "--flight" ∷ codes "2,0" ∷ []) ≡ None
unfolding clap_on_literals
no_flight_beside_batches = refl

no_flight_by_large : flying_by (codes "--plan=large" ∷ codes "--flight" ∷ codes "2,0" ∷ []) ≡ None
unfolding clap_on_literals
no_flight_by_large = refl

no_flight_by_hash : flying_by (codes "--flight" ∷ codes "2,0" ∷ codes "--plan" ∷ codes "hash" ∷ []) ≡ None
unfolding clap_on_literals
no_flight_by_hash = refl

-- ---- what the command doesn't take
help : fault_of usage (codes "--help" ∷ []) ≡ kind.DisplayHelp ∷ []
unfolding clap_on_literals
help = refl

unknown : fault_of usage (codes "--meddle" ∷ codes "9:fail" ∷ []) ≡ kind.UnknownArgument ∷ []
unfolding clap_on_literals
unknown = refl

known : Parses meddle_usage (codes "--meddle" ∷ codes "9:fail" ∷ [])
unfolding clap_on_literals
known = refl

twice : fault_of usage (codes "--depth" ∷ codes "5" ∷ codes "--depth" ∷ codes "5" ∷ []) ≡ kind.ArgumentConflict ∷ []
unfolding clap_on_literals
twice = refl

no_value : fault_of usage (codes "--buffer" ∷ []) ≡ kind.InvalidValue ∷ []
unfolding clap_on_literals
no_value = refl

input_bounded : settings_of usage (codes "--max-input" ∷ codes "1024" ∷ []) ≡ Some (record { buffer = 64; depth = 5; pack = 1; planner = Auto; pad = None; stash = 32; keep = false; save = false; batch = None; max_input = 1024 })
unfolding clap_on_literals
input_bounded = refl

input_too_short : settings_of usage (codes "--max-input" ∷ codes "1023" ∷ []) ≡ None
unfolding clap_on_literals
input_too_short = refl

store_named : store_of (codes "--store" ∷ codes "safe" ∷ []) ≡ Some (codes "safe")
unfolding clap_on_literals
store_named = refl

store_unnamed : store_of [] ≡ None
unfolding clap_on_literals
store_unnamed = refl

no_store_of_others : fault_of meddle_usage (codes "--store" ∷ codes "safe" ∷ []) ≡ kind.UnknownArgument ∷ []
unfolding clap_on_literals
no_store_of_others = refl

mark_placed : mark_of (codes "--keep" ∷ codes "--mark" ∷ codes "safe" ∷ []) ≡ Some (codes "safe")
unfolding clap_on_literals
mark_placed = refl

mark_unplaced : mark_of (codes "--keep" ∷ []) ≡ None
unfolding clap_on_literals
mark_unplaced = refl

mark_with_keep : settings_of kept_usage (codes "--keep" ∷ codes "--mark" ∷ codes "safe" ∷ [])
    ≡ Some (record { buffer = 64; depth = 5; pack = 1; planner = Auto; pad = None; stash = 32; keep = true; save = false; batch = None; max_input = 1073741824 })
unfolding clap_on_literals
mark_with_keep = refl

mark_without_keep : settings_of kept_usage (codes "--mark" ∷ codes "safe" ∷ []) ≡ None
unfolding clap_on_literals
mark_without_keep = refl

no_mark_of_others : fault_of meddle_usage (codes "--mark" ∷ codes "safe" ∷ []) ≡ kind.UnknownArgument ∷ []
unfolding clap_on_literals
no_mark_of_others = refl

-- ---- tables that are saved

saves : is_saved (codes "--save" ∷ []) ≡ true
unfolding clap_on_literals
saves = refl

saves_not : is_saved (codes "--keep" ∷ []) ≡ false
unfolding clap_on_literals
saves_not = refl

saves_and_keeps : saved_settings_of (codes "--save" ∷ []) ≡ Some (record { buffer = 64; depth = 5; pack = 1; planner = Auto; pad = None; stash = 32; keep = true; save = true; batch = None; max_input = 1073741824 })
unfolding clap_on_literals
saves_and_keeps = refl

mark_with_save : saved_settings_of (codes "--save" ∷ codes "--mark" ∷ codes "safe" ∷ [])
    ≡ Some (record { buffer = 64; depth = 5; pack = 1; planner = Auto; pad = None; stash = 32; keep = true; save = true; batch = None; max_input = 1073741824 })
unfolding clap_on_literals
mark_with_save = refl

no_save_beside_keep : saved_settings_of (codes "--save" ∷ codes "--keep" ∷ []) ≡ None
unfolding clap_on_literals
no_save_beside_keep = refl

keeps_alone : saved_settings_of (codes "--keep" ∷ []) ≡ Some (record { buffer = 64; depth = 5; pack = 1; planner = Auto; pad = None; stash = 32; keep = true; save = false; batch = None; max_input = 1073741824 })
unfolding clap_on_literals
keeps_alone = refl

mark_without_save : saved_settings_of (codes "--mark" ∷ codes "safe" ∷ []) ≡ None
unfolding clap_on_literals
mark_without_save = refl

no_save_where_kept : fault_of kept_usage (codes "--save" ∷ []) ≡ kind.UnknownArgument ∷ []
unfolding clap_on_literals
no_save_where_kept = refl
