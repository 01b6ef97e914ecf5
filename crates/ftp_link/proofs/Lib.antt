mod CallLemmas
mod DataLemmas
mod DialogueLemmas
mod GainLemmas
mod SizeLemmas
mod StepLemmas
mod TurnLemmas
