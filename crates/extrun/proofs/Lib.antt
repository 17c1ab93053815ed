mod Commands
mod Outcomes
mod Requests
