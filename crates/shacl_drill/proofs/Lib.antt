mod DrillLemmas
mod SizeLemmas
mod TallyLemmas
mod TextLemmas
