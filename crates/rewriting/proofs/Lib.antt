-- Laws about what the program `rewrite` prints.
pub mod PrintoutLaws
