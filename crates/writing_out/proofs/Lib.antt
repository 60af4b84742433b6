-- Laws about what the program `rewrite` puts on standard error.
pub mod ToldLaws
