-- The theorems of `exported`: the bytes lent carry each end's record from call to call.
pub mod Fitting
pub mod SenderFitsKept
pub mod BlockAnswers
pub mod SenderCarried
pub mod NoRoom
pub mod SenderLists
pub mod ReceiverFitsKept
pub mod ReceiverCarried
pub mod ReceiverLists
pub mod NoteCarried
pub mod TotalsCarried
pub mod LinesCarried
pub mod FramingsCarried
