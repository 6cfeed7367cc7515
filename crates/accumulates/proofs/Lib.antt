-- Laws that the functions' proofs share.
mod Pass
mod TestedPass
mod SecondRow
mod PutBack
