-- Laws about what the program prints.
pub mod RefusalLaws
pub mod SettlementLaws
pub mod OutputLaws
pub mod Opened
