mod FolderLemmas
mod KeepingLemmas
mod PathLemmas
