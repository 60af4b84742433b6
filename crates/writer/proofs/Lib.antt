-- Laws about the writer.
pub mod SoFarLaws
pub mod AnswerLaws
pub mod Opened
