pub mod EventMembers
pub mod EventKinds
pub mod EventReading
pub mod AnswerTexts
pub mod View
pub mod Unanswered
