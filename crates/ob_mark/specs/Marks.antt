-- How a mark is spelt in its file.
use Rattle.std.specs.Prelude.{⊤, ◌≡◌, ◌≢◌, ◌<◌, ℕ, Bool, false, true, if◌then◌else◌, List, [], ◌++◌, Option, None, Some, bytes_eq, codes, decimal, length, slice_index, take}
use Rattle.hex.specs.Hex.{encode_lower}
use Rattle.ob_reopen.specs.declared.mark.Mark.{Mark}
use Rattle.ob_reopen.specs.declared.mark.Mark.TheVariants.{Fresh, InUse, Closed, Begun, Saved}
use Rattle.ob_reopen.specs.Keepers.{AreMarked, AreSaltBytes}
use Rattle.ob_mark.specs.declared.identity.Held.{Held}
use Rattle.ob_mark.specs.declared.identity.NotId.{NotId}
use Rattle.ob_mark.specs.declared.identity.NotId.TheVariants.{Malformed, OtherVersion}

-- the numbers of a closing, before the end of their line
abbrev pub numbers_text : (region blocks number pack : ℕ) → List ℕ → List ℕ
numbers_text region blocks number pack end =
    decimal region ++ (codes " " ++ (decimal blocks ++ (codes " "
    ++ (decimal number ++ (codes " " ++ (decimal pack ++ end))))))

-- the end of a line with 16 bytes
abbrev pub bytes_text : List ℕ → List ℕ
bytes_text bytes = encode_lower bytes ++ codes "\n"

-- the end of a line with a salt, and the check value of a secret
abbrev pub salts_text : (salt check : List ℕ) → List ℕ
salts_text salt check = encode_lower salt ++ (codes " " ++ bytes_text check)

-- one line; a fresh one has no file
abbrev pub mark_text : Mark → List ℕ
mark_text Fresh = []
mark_text InUse = codes "in use\n"
mark_text (Closed region blocks number pack) =
    codes "closed " ++ numbers_text region blocks number pack (codes "\n")
mark_text Begun = codes "begun\n"
mark_text (Saved region blocks number pack salt check) =
    codes "saved " ++ numbers_text region blocks number pack (codes " " ++ salts_text salt check)

-- a file that has this text holds this mark: one within its limits that isn't fresh
abbrev pub Spells : List ℕ → Mark → Type 0
Spells text Fresh = ⊥
Spells text InUse = text ≡ mark_text InUse
Spells text (Closed region blocks number pack) =
    AreMarked region blocks number pack × (text ≡ mark_text (Closed region blocks number pack))
Spells text Begun = text ≡ mark_text Begun
Spells text (Saved region blocks number pack salt check) =
    AreMarked region blocks number pack × AreSaltBytes salt × AreSaltBytes check
    × (text ≡ mark_text (Saved region blocks number pack salt check))

-- the line after that of a mark which goes with one store alone
abbrev pub store_text : Option (List ℕ) → List ℕ
store_text None = []
store_text (Some id) = codes "store " ++ bytes_text id

-- an identity's bytes, where there is one
abbrev pub IsIdentity : Option (List ℕ) → Type 0
IsIdentity None = ⊤
IsIdentity (Some id) = AreSaltBytes id

abbrev pub held_text : Held → List ℕ
held_text held = mark_text held.mark ++ store_text held.id

-- a file that has this text holds this mark, beside this identity
pub record HoldsMark (text : List ℕ) (held : Held) : Type 0 where
  pub mark : Spells (mark_text held.mark) held.mark
  pub id : IsIdentity held.id
  pub is : text ≡ held_text held

-- the line of a store's identity, after the number of the form of its files
abbrev pub id_text : List ℕ → List ℕ
id_text id = codes "ribquince 1 " ++ bytes_text id

abbrev pub begins : (first text : List ℕ) → Bool
begins first text = bytes_eq (take (length first) text) first

-- why a text is no identity's: another form, or none at all
abbrev pub not_id : List ℕ → NotId
not_id text = if begins (codes "ribquince 1 ") text then Malformed
    else if begins (codes "ribquince ") text then OtherVersion
    else Malformed

-- whether a mark goes with the store that has this identity, or with those that have none: it names that store, or none;
-- what another kind of run saved is told apart by its mark
abbrev pub is_saved : Mark → Bool
is_saved Fresh = false
is_saved InUse = false
is_saved (Closed region blocks number pack) = false
is_saved Begun = true
is_saved (Saved region blocks number pack salt check) = true

abbrev pub goes_by : Mark → (held id : Option (List ℕ)) → Bool
goes_by mark (Some held) (Some id) = bytes_eq held id
goes_by mark None (Some id) = false
goes_by mark None None = true
goes_by mark (Some held) None = is_saved mark

abbrev pub goes_with : Held → Option (List ℕ) → Bool
goes_with held id = goes_by held.mark held.id id

-- it is one word
abbrev pub HasNoBlank : List ℕ → Type 0
HasNoBlank word = (i : ℕ) → i < length word → slice_index word i ≢ 32
