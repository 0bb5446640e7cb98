mod DrawLemmas
mod Depths
mod Inserting
mod LoadLemmas
mod Ranges
