pub mod CallerLemmas
pub mod PlainLists
pub mod PathPlaces
pub mod FiveLines
pub mod Number
pub mod Lines
pub mod LineAt
pub mod Reading
mod ReadingCases
pub mod Agreement
pub mod States
pub mod FrozenFiles
pub mod Fronts
pub mod FitsGrows
pub mod JournalGrows
pub mod InReach
pub mod Refused
pub mod Cases
pub mod TwoPhases
mod TwoLives
mod OwnReads
mod TableCases
mod MarkCases
pub mod MarkedBytes
pub mod MarksGrow
pub mod PutLines
pub mod MarksAtHome
pub mod FileCells
pub mod PendingLines
pub mod PiecesOnce
pub mod LivePieces
pub mod CountedPieces
pub mod PiecesOfClients
pub mod LivePaths
pub mod PiecesGrow
pub mod RunsOfMarks
pub mod RunsInOrder
pub mod Jobs
pub mod ProgramPlaces
pub mod AnsweredLines
pub mod SoFar
pub mod FitsOfOthers
pub mod Finished
pub mod FileBytes
pub mod Digests
pub mod JournalLines
pub mod PrintableAnswers
pub mod TextParts
pub mod TextReader
pub mod TextRead
pub mod LegalReports
pub mod TextCases
mod SlotCases
