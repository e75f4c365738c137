pub mod ToldLemmas
mod DevCases
