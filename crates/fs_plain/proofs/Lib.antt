mod Blocks
mod ConsecutivePuts
mod Cases
