pub mod FlatLemmas
pub mod MarkLemmas
pub mod InStep
pub mod AlikeSessions
pub mod SettingLemmas
pub mod AsOne
pub mod Numbered
pub mod TextLemmas
pub mod ServedAlone
pub mod AloneRuns
pub mod TakenLemmas
pub mod FlightWrites
pub mod SameAlone
pub mod GatheredMeant
pub mod OneByOneLemmas
pub mod FlightPositions
pub mod UntilLemmas
pub mod FlightLeft
pub mod SameEntries
mod FlownExamples
pub mod PromptLemmas
pub mod BaseLemmas
pub mod PieceLemmas
pub mod BatchLemmas
pub mod RerunLemmas
pub mod KindLemmas
pub mod CutLemmas
pub mod FullLemmas
mod Spelt
mod Together
pub mod ShownLemmas
pub mod PlainLemmas
pub mod IndexWrites
pub mod OwnLemmas
pub mod AloneLemmas
pub mod LeftLemmas
pub mod BegunLemmas
pub mod StopLemmas
pub mod SavedMarks
pub mod DrawnSalts
pub mod SecretLemmas
pub mod EffectLemmas
pub mod BeginsAlike
pub mod SavedAsOne
pub mod SavedNumbers
pub mod SaltedNumbers
mod Words
