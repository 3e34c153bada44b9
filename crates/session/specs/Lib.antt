pub mod Stage
pub mod Seniority
pub mod MostSenior
pub mod Claims
pub mod Record
pub mod Rules
