-- Whether the tables are kept, by the words and by the settings that they spell.
use Rattle.ob_headline.proofs.Words.{ap, Bool, codes, Config, false, if◌then◌else◌, List, nat_le, None, Option, option_map, refl, Some, subst, sym, Text, true, ℕ, ◌&&◌, ◌*◌, ◌+◌, ◌∙◌, ◌≡◌}
use Rattle.ob_base.specs.declared.config.Planner.{Planner}
use Rattle.ob_headline.specs.Settings.{batch_in, joined, may_mark, may_pad, number_in, pad_in, planner_in, saved_settings_of, saving, settings_by, settings_in, settings_of}
use Rattle.ob_headline.specs.Usage.{is_kept, is_saved, is_set, kept_usage, saved_usage, value_of}

module _ (keep : Bool) (config : Config) where
  fits_keep : (fits : Bool) (c : Config) → c.keep ≡ keep → (if fits then Some c else None) ≡ Some config → config.keep ≡ keep
  fits_keep true c same is = let of : c ≡ config = cc is in sym (ap (λ (x : Config). x.keep) of) ∙ same
  fits_keep false c same is = absurd (cc is)

  joined_keep : (buffer depth : Option ℕ) (planner : Option Planner) (pack : Option ℕ) (pad : Option (Option ℕ)) (stash : Option ℕ) (batch : Option (Option ℕ)) (max_input : Option ℕ)
      → joined buffer depth planner pack pad stash batch keep max_input ≡ Some config → config.keep ≡ keep
  joined_keep None depth planner pack pad stash batch max_input is = absurd (cc is)
  joined_keep (Some buffer) None planner pack pad stash batch max_input is = absurd (cc is)
  joined_keep (Some buffer) (Some depth) None pack pad stash batch max_input is = absurd (cc is)
  joined_keep (Some buffer) (Some depth) (Some planner) None pad stash batch max_input is = absurd (cc is)
  joined_keep (Some buffer) (Some depth) (Some planner) (Some pack) None stash batch max_input is = absurd (cc is)
  joined_keep (Some buffer) (Some depth) (Some planner) (Some pack) (Some pad) None batch max_input is = absurd (cc is)
  joined_keep (Some buffer) (Some depth) (Some planner) (Some pack) (Some pad) (Some stash) None max_input is = absurd (cc is)
  joined_keep (Some buffer) (Some depth) (Some planner) (Some pack) (Some pad) (Some stash) (Some batch) None is = absurd (cc is)
  joined_keep (Some buffer) (Some depth) (Some planner) (Some pack) (Some pad) (Some stash) (Some batch) (Some max_input) is =
      fits_keep (nat_le (3 * pack + 1) buffer && may_pad pad planner)
      (record { buffer = buffer; depth = depth; pack = pack; planner = planner; pad = pad; stash = stash; keep = keep; save = false; batch = batch; max_input = max_input }) refl is

  -- the settings of these values, kept or not
  abbrev settings_if : (value : Text → Option Text) → (keeps : Bool) → Option Config
  settings_if value keeps =
      joined (number_in 4 65536 64 (value (codes "buffer"))) (number_in 1 8 5 (value (codes "depth"))) (planner_in (value (codes "plan"))) (number_in 1 16 1 (value (codes "pack")))
      (pad_in (value (codes "pad"))) (number_in 1 1024 32 (value (codes "stash"))) (batch_in (value (codes "batch"))) keeps (number_in 1024 1073741824 1073741824 (value (codes "max-input")))

  marked_keep : (value : Text → Option Text) (may : Bool) → is_set (value (codes "keep")) ≡ keep → (if may then settings_in value else None) ≡ Some config → config.keep ≡ keep
  marked_keep value false same is = absurd (cc is)
  marked_keep value true same is =
      joined_keep (number_in 4 65536 64 (value (codes "buffer"))) (number_in 1 8 5 (value (codes "depth"))) (planner_in (value (codes "plan"))) (number_in 1 16 1 (value (codes "pack")))
      (pad_in (value (codes "pad"))) (number_in 1 1024 32 (value (codes "stash"))) (batch_in (value (codes "batch"))) (number_in 1024 1073741824 1073741824 (value (codes "max-input")))
      (subst (λ (b : Bool). settings_if value b ≡ Some config) same is)

-- the settings say so where the words do
pub kept_settings : (words : List Text) (config : Config) → settings_of kept_usage words ≡ Some config → config.keep ≡ is_kept words
kept_settings words config is =
    let value = value_of kept_usage words in
    marked_keep (is_kept words) config value (may_mark (value (codes "mark")) (is_set (value (codes "keep")))) refl is

-- ---- tables that are saved
saving_keeps : (save keep : Bool) (settings other : Option Config) (config : Config) → save ≡ true → (if save then (if keep then None else option_map saving settings) else other) ≡ Some config → config.keep ≡ true
saving_keeps false keep settings other config on is = absurd (cc on)
saving_keeps true true settings other config on is = absurd (cc is)
saving_keeps true false None other config on is = absurd (cc is)
saving_keeps true false (Some c) other config on is = let of : saving c ≡ config = cc is in ap (λ (x : Config). x.keep) (sym of)

-- then they are kept, too
pub saved_settings : (words : List Text) (config : Config) → is_saved words ≡ true → saved_settings_of words ≡ Some config → config.keep ≡ true
saved_settings words config saves is =
    let value = value_of saved_usage words in
    saving_keeps (is_saved words) (is_set (value (codes "keep"))) (settings_in value) (settings_by value) config saves is

-- ---- tables that aren't
unsaving : (save : Bool) (saved other : Option Config) (config : Config) → save ≡ false → (if save then saved else other) ≡ Some config → other ≡ Some config
unsaving false saved other config off is = is
unsaving true saved other config off is = absurd (cc off)

-- then they are kept where the words say so
pub unsaved_settings : (words : List Text) (config : Config) → is_saved words ≡ false → saved_settings_of words ≡ Some config → config.keep ≡ is_set (value_of saved_usage words (codes "keep"))
unsaved_settings words config off is =
    let value = value_of saved_usage words in
    let keep = is_set (value (codes "keep")) in
    marked_keep keep config value (may_mark (value (codes "mark")) keep) refl
    (unsaving (is_saved words) (if keep then None else option_map saving (settings_in value)) (settings_by value) config off is)
