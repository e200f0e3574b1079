-- What debts of the code stand for, and until when they count.
pub mod DebtLaws
pub mod OwesLaws
