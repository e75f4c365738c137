mod Cases
mod Parents
