-- How a run ends before anything is read.
use Rattle.std.specs.Prelude.{◌≡◌, ◌≢◌, ℕ, Bool, true, false, ◌&&◌, not, if◌then◌else◌, List, [], Option, None, Some, bytes_eq, codes}
use Rattle.std.specs.declared.io.ErrorKind.{ErrorKind}
use Rattle.std.specs.declared.io.ErrorKind.TheVariants.{OutOfMemory}
use Rattle.ob_reopen.specs.Keepers.{AreSaltBytes}
use Rattle.ob_reopen.specs.declared.mark.Mark.{Mark}
use Rattle.ob_mark.specs.Marks.{HoldsMark, id_text, not_id}
use Rattle.ob_mark.specs.declared.identity.NotId.{NotId}
use Rattle.ob_mark.specs.declared.identity.NotId.TheVariants.{Malformed, OtherVersion as OtherForm}
use Rattle.ob_start.specs.declared.start.StartErr.{StartErr}
use Rattle.ob_start.specs.declared.start.StartErr.TheVariants.{Usage, Kept, NoMemory, AtWork, NoMark, NoStore, OtherStore, Version, Failed}
use Rattle.ob_start.specs.declared.start.FoundStore.{FoundStore}
use Rattle.ob_start.specs.declared.start.FoundStore.TheVariants.{Nothing as NoName, NoFolder, Bare, Foreign, OtherVersion, Store}
use Rattle.ob_start.specs.declared.start.FoundMark.{FoundMark}
use Rattle.ob_start.specs.declared.start.FoundMark.TheVariants.{Nothing as Unmarked, Other as NoMarkOfOne, Of}
use Rattle.ob_start.specs.declared.start.FoundScratch.{FoundScratch}
use Rattle.ob_start.specs.declared.start.FoundScratch.TheVariants.{Nothing as NoScratch, Other as NoneOfOurs, Left}

abbrev pub start_status : StartErr → ℕ
start_status Usage = 2
start_status Kept = 2
start_status NoMemory = 7
start_status AtWork = 9
start_status NoMark = 9
start_status NoStore = 9
start_status OtherStore = 9
start_status Version = 9
start_status Failed = 10

-- the last line
abbrev pub start_line : StartErr → List ℕ
start_line Usage = codes "! usage\n"
start_line Kept = codes "! kept\n"
start_line NoMemory = codes "! no memory\n"
start_line AtWork = codes "! not closed\n"
start_line NoMark = codes "! no mark\n"
start_line NoStore = codes "! no store\n"
start_line OtherStore = codes "! other store\n"
start_line Version = codes "! version\n"
start_line Failed = codes "! keeper fault\n"

-- how a run ends at which a call failed
abbrev pub failure : ErrorKind → StartErr
failure OutOfMemory = NoMemory
failure kind = Failed

-- ---- what is found
abbrev pub no_store : NotId → FoundStore
no_store OtherForm = OtherVersion
no_store Malformed = Foreign

-- what a folder is by the text of its identity, and by the names in it
pub record FindsStore (text : List ℕ) (others regions : Bool) (found : FoundStore) : Type 0 where
  pub bare : text ≡ [] → found ≡ (if others then Foreign else Bare)
  pub store : (id : List ℕ) → AreSaltBytes id → text ≡ id_text id → found ≡ Store id regions
  pub other : text ≢ [] → ((id : List ℕ) → AreSaltBytes id → text ≢ id_text id) → found ≡ no_store (not_id text)

-- what lies at the place of a mark, by its text
abbrev pub FindsMark : List ℕ → FoundMark → Type 0
FindsMark text Unmarked = text ≡ []
FindsMark text NoMarkOfOne = (text ≢ []) × ((mark : Mark) (id : List ℕ) → ¬ (HoldsMark text (record { mark = mark; id = Some id })))
FindsMark text (Of id) = (mark : Mark) × HoldsMark text (record { mark = mark; id = Some id })

-- ---- runs that save their tables

-- without a mark a run begins in a folder of nothing, or in a store of nothing
abbrev pub unmarked_refusal : FoundStore → Option StartErr
unmarked_refusal NoName = None
unmarked_refusal NoFolder = Some NoStore
unmarked_refusal Bare = None
unmarked_refusal Foreign = Some NoStore
unmarked_refusal OtherVersion = Some Version
unmarked_refusal (Store id regions) = if regions then Some NoMark else None

-- by a mark it goes on in the mark's own store alone
abbrev pub marked_refusal : FoundStore → (of : List ℕ) → Option StartErr
marked_refusal NoName of = Some NoStore
marked_refusal NoFolder of = Some NoStore
marked_refusal Bare of = Some NoStore
marked_refusal Foreign of = Some NoStore
marked_refusal OtherVersion of = Some Version
marked_refusal (Store id regions) of = if bytes_eq id of then None else Some OtherStore

-- another form is told first
abbrev pub no_mark_refusal : FoundStore → StartErr
no_mark_refusal NoName = Failed
no_mark_refusal NoFolder = Failed
no_mark_refusal Bare = Failed
no_mark_refusal Foreign = Failed
no_mark_refusal OtherVersion = Version
no_mark_refusal (Store id regions) = Failed

abbrev pub save_refusal : FoundStore → FoundMark → Option StartErr
save_refusal store Unmarked = unmarked_refusal store
save_refusal store NoMarkOfOne = Some (no_mark_refusal store)
save_refusal store (Of of) = marked_refusal store of

-- ---- the others
abbrev pub keep_refusal : (has_mark has_regions : Bool) → Option StartErr
keep_refusal has_mark has_regions = if has_regions && not has_mark then Some NoMark else None

-- whether what has the names of the files that a run without words makes is what such a run left
abbrev pub is_left : FoundScratch → (has_regions : Bool) → Bool
is_left NoScratch has_regions = not has_regions
is_left NoneOfOurs has_regions = false
is_left Left has_regions = true

abbrev pub anew_refusal : (is_saved : Bool) → FoundScratch → (has_regions : Bool) → Option StartErr
anew_refusal is_saved scratch has_regions =
    if is_left scratch has_regions && not is_saved then None else Some Kept
