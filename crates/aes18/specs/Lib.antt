-- The definitions of `aes18`: what each exported function answers, and what it leaves in the bytes lent to it.
pub mod Room
pub mod SenderCalls
pub mod ReceiverCalls
pub mod TotalsCalls
pub mod LineCalls
pub mod FramingCalls
