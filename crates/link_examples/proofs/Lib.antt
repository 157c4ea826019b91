-- Demand 3 on closed passes: all that is taken as given can hold, and neither of the two things taken as given can be left out.
pub mod Passes
