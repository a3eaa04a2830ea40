-- The refusals' numbers, the restricted numbers and the rules, as the definitions take them.
pub mod Refusal
pub mod Restricted
pub mod Rules
pub mod Said
